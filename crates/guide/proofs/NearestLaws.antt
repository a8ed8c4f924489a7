-- The rounds that lead each stage to the successor fewest steps from a now: what holds after k of them, and that it is all there is to do when a
-- round settles no stage, or after as many rounds as there are stages.
--
--     near_at                      whether a successor of a stage is at most j steps from a now
--     Nearing                     what holds after k rounds
--     nearest-same                only what is below n counts
--     nearing-start, nearing-more, nearing-rest, nearing-end
--
-- Assumes nothing.
use Prim.Native.Nat.{ℕ, zero, suc, ◌+◌, ◌-◌, ◌≤◌, ◌<◌}
use native.Mathlib.Numerals.{add-one}
use native.Mathlib.Omega.{arith}
use mathlib.Core.Path.{◌≡◌, refl, sym, ap, ap₂, ◌∙◌, subst}
use mathlib.Core.Bool.{Bool, true, false, not, ◌&&◌, ◌||◌}
use mathlib.Core.List.{List}
use mathlib.Core.Logic.{⊎_elim, inl, inr}
use lib.Bits.{bit_and, bit_or}
use lib.Dec.{T}
use lib.ListN.{get_or}
use Rattle.sets.specs.declared.Set.{Set}
use Rattle.model.specs.Graph.{Graph}
use Rattle.model.specs.Formula.{pick}
use Rattle.logic.proofs.Booleans.{T_and, decide, same_test, any_below_lem}
use Rattle.logic.proofs.Successors.{some-next-same}
use Rattle.logic.specs.Test.{Stages, iter, some_next, any_below}
use Rattle.sets.specs.Member.{Empty}
use Rattle.sets.proofs.LawsMember.{side?, has-test}
use Rattle.modal.specs.Row.{member, Row, Computes}
use Rattle.modal.specs.Modal.{ex_among}
use Rattle.modal.proofs.LawsMember.{below, member-or, member-and, member-minus, member-all}
use Rattle.written.specs.Choice.{lowest_next, within, fewest, nearest}
use Rattle.written.proofs.LowestLaws.{lowest-same, lowest-next-same, within-suc, within_more, within-rest, nearest-is, nearest-none}
use Rattle.guide.specs.Toward.{Filled, Cleared, lowest_in, settled}
use Rattle.guide.proofs.TowardLaws.{filled-as, filled-after, lowest-in-row}

-- Whether some successor of s is at most j steps from a now.
abbrev pub near_at : Graph → Stages → Stages → ℕ → ℕ → Bool
near_at G a b s j = some_next G (within G a b j) s

-- After k rounds: the stages at most k steps from a now are near; those with a successor fewer than k steps from one are led to the nearest; the others
-- are away, and led nowhere.
pub record Nearing (G : Graph) (a b : Stages) (k near away : ℕ) (before toward : List ℕ) : Type 0 where
  pub near-is : (s : ℕ) → s < G.stages → member near s ≡ within G a b k s
  pub away-is : (s : ℕ) → s < G.stages → member away s ≡ not (any_below k (near_at G a b s))
  pub toward-is : Filled G.stages (λ s. pick (any_below k (near_at G a b s)) (nearest G a b s) 0) before toward

-- A stage that was led nowhere and is new is led to the nearest; every other stays as it was.
settle-one : (done near : Bool) (low most : ℕ) → (done ≡ false → near ≡ true → low ≡ most)
    → pick (not done && near) low (pick done most 0) ≡ pick (done || near) most 0
settle-one true true low most e = refl
settle-one true false low most e = refl
settle-one false true low most e = e refl refl
settle-one false false low most e = refl

-- What was led before or is new is not away.
away-one : (done near : Bool) → (not done && not (not done && near)) ≡ not (done || near)
away-one true near = refl
away-one false near = refl

-- To be asked only where not done changes nothing where what is done is near.
near-one : (near a done now : Bool) → (T a → T done → T near) → (near || (a && (not done && now))) ≡ (near || (a && now))
near-one true a done now f = refl
near-one false true true now f = absurd (f tt tt)
near-one false true false now f = refl
near-one false false done now f = refl

-- ---- only what is below n counts

module _ (G : Graph) (a a' b b' : Stages) (f : (s : ℕ) → s < G.stages → a s ≡ a' s) (e : (s : ℕ) → s < G.stages → b s ≡ b' s) where
  -- Sets that are the same on the stages have the same stages near a now,
  within_same : (k s : ℕ) → s < G.stages → within G a b k s ≡ within G a' b' k s
  unfolding iter
  within_same zero s h = e s h
  within_same (suc k) s h =
      ap₂ ◌||◌ (within_same k s h) (ap₂ ◌&&◌ (f s h) (some-next-same G (within G a b k) (within G a' b' k) (within_same k) s))

  -- and the same nearest successors.
  pub nearest-same : (s : ℕ) → nearest G a b s ≡ nearest G a' b' s
  nearest-same s =
      lowest-next-same G (within G a b (fewest G a b s)) (within G a' b' (fewest G a b s)) (within_same (fewest G a b s)) s
      ∙ ap (λ (k : ℕ). lowest_next G (within G a' b' k) s)
      (lowest-same G.stages (near_at G a b s) (near_at G a' b' s)
      (λ k i. some-next-same G (within G a b k) (within G a' b' k) (within_same k) s))

-- ---- the nearest successor

module _ (G : Graph) (a b : Stages) where
  -- Where no successor was near before the round k and one is then, the nearest is the lowest that is.
  nearest-now : (s k : ℕ) → k < G.stages → any_below k (near_at G a b s) ≡ false → near_at G a b s k ≡ true
      → lowest_next G (within G a b k) s ≡ nearest G a b s
  nearest-now s k h none near =
      sym (nearest-is G a b s k h (subst T (sym near) tt) (λ j i t. subst T none ((any_below_lem k (near_at G a b s)).1 (j, i, t))))

  -- When no stage that is not done has a successor near a now in any round, every stage is led to its nearest successor.
  nearing-all : {k near away : ℕ} {before toward : List ℕ} → Nearing G a b k near away before toward
      → ((s : ℕ) → s < G.stages → (T (any_below k (near_at G a b s)) → ⊥) → (j : ℕ) → j < G.stages → T (near_at G a b s j) → ⊥)
      → Filled G.stages (nearest G a b) before toward
  nearing-all {k} N none = filled-as (λ s h. go s (any_below k (near_at G a b s)) (none s h)) N.toward-is
    where
      go : (s : ℕ) (q : Bool) → ((T q → ⊥) → (j : ℕ) → j < G.stages → T (near_at G a b s j) → ⊥)
          → pick q (nearest G a b s) 0 ≡ nearest G a b s
      go s true f = refl
      go s false f = sym (nearest-none G a b s (f (λ t. t)))

-- ---- the rounds, over a row of successor sets

module _ {next : List Set} {n : ℕ} {G : Graph} (R : Row next n G) (a : Stages) where
  -- Before the first round.
  pub nearing-start : (b : ℕ) {away : ℕ} {row : List ℕ} → away ≡ below n → Cleared n row → Nearing G a (member b) 0 b away row row
  unfolding iter any_below
  nearing-start b d c = record {
    near-is = λ s h. refl;
    away-is = λ s h. member-all d R.room s (omega (arith, R.stages));
    toward-is = record { each = λ s h. c s (omega (arith, R.stages)); kept = λ s h. refl; size = refl };
  }

  -- After as many rounds as there are stages.
  pub nearing-end : (b : Stages) {k near away : ℕ} {before toward : List ℕ} → n ≤ k → Nearing G a b k near away before toward
      → Filled n (nearest G a b) before toward
  nearing-end b {k} {before = before} {toward = toward} l N =
      subst (λ (j : ℕ). Filled j (nearest G a b) before toward) R.stages
      (nearing-all G a b N (λ s h f j i t. f ((any_below_lem k (near_at G a b s)).1 (j, omega (arith, R.stages), t))))

-- A round, worked out from the row.
module _ {next : List Set} {n : ℕ} {G : Graph} (R : Row next n G) (a : ℕ) (b : Stages) (k : ℕ) {near away new : ℕ} {before toward : List ℕ}
    (N : Nearing G (member a) b k near away before toward) (c : Computes next n (ex_among away near) new) where
  -- What is new was away, and has a successor that is near.
  new_is : (s : ℕ) → s < G.stages → member new s ≡ (not (any_below k (near_at G (member a) b s)) && near_at G (member a) b s k)
  new_is s h =
      c.right G R s (omega (arith, R.stages))
      ∙ ap₂ ◌&&◌ (N.away-is s h) (some-next-same G (member near) (within G (member a) b k) N.near-is s)

  -- A stage with a that was led before is near.
  led-near : (s : ℕ) → T (member a s) → T (any_below k (near_at G (member a) b s)) → T (within G (member a) b k s)
  led-near s t u =
      let f = (any_below_lem k (near_at G (member a) b s)).0 u in
      within_more G (member a) b (suc f.0) k f.1 s ((within-suc G (member a) b f.0 s).1 (inr (t, f.2)))

  -- One round more.
  pub nearing-more : {away' both near' : ℕ} {toward' : List ℕ} → k < n → Filled n (settled next n new near toward) toward toward'
      → away' ≡ away - bit_and away new → both ≡ bit_and a new → near' ≡ bit_or near both
      → Nearing G (member a) b (k + 1) near' away' before toward'
  unfolding iter any_below
  nearing-more {both = both} {toward' = toward'} l f d m g = rw (add-one k) (record {
    near-is = λ s h.
        member-or near both g s
        ∙ ap₂ ◌||◌ (N.near-is s h) (member-and a new m s ∙ ap (◌&&◌ (member a s)) (new_is s h))
        ∙ near-one (within G (member a) b k s) (member a s) (any_below k (near_at G (member a) b s)) (near_at G (member a) b s k) (led-near s);
    away-is = λ s h.
        member-minus away new d s ∙ ap₂ (λ x y. x && not y) (N.away-is s h) (new_is s h)
        ∙ away-one (any_below k (near_at G (member a) b s)) (near_at G (member a) b s k);
    toward-is = filled-as led (filled-after N.toward-is
        (subst (λ (j : ℕ). Filled j (settled next n new near toward) toward toward') (sym R.stages) f));
  })
    where
      led : (s : ℕ) → s < G.stages → settled next n new near toward s
          ≡ pick (any_below k (near_at G (member a) b s) || near_at G (member a) b s k) (nearest G (member a) b s) 0
      led s h =
          ap (λ (q : Bool). pick q (lowest_in next n near s) (get_or toward s 0)) (new_is s h)
          ∙ ap₂ (pick (not (any_below k (near_at G (member a) b s)) && near_at G (member a) b s k))
          (lowest-in-row R near s (omega (arith, R.stages)) ∙ lowest-next-same G (member near) (within G (member a) b k) N.near-is s)
          (N.toward-is.each s h)
          ∙ settle-one (any_below k (near_at G (member a) b s)) (near_at G (member a) b s k) _ _
          (nearest-now G (member a) b s k (omega (arith, R.stages)))

  module _ (none : Empty new) where
    -- Where no stage is new, a stage with a successor that is near was led before,
    done-before : (s : ℕ) → s < G.stages → T (near_at G (member a) b s k) → T (any_below k (near_at G (member a) b s))
    done-before s h t =
        ⊎_elim (λ u. u) (λ f. absurd (none s ((has-test new s).0 (subst T (sym (new_is s h))
        ((T_and (not (any_below k (near_at G (member a) b s))) (near_at G (member a) b s k)).1 (f, t))))))
        (decide (any_below k (near_at G (member a) b s)))

    -- so that a round more would add none,
    still : (s : ℕ) → s < G.stages → within G (member a) b (suc k) s ≡ within G (member a) b k s
    still s h =
        same_test (within G (member a) b (suc k) s) (within G (member a) b k s) (
          λ t. ⊎_elim (λ u. u) (λ p. led-near s p.0 (done-before s h p.1)) ((within-suc G (member a) b k s).0 t),
          λ t. (within-suc G (member a) b k s).1 (inl t),
        )

    -- and every stage is led to its nearest successor already.
    pub nearing-rest : Filled n (nearest G (member a) b) before toward
    nearing-rest = subst (λ (j : ℕ). Filled j (nearest G (member a) b) before toward) R.stages (nearing-all G (member a) b N later)
      where
        later : (s : ℕ) → s < G.stages → (T (any_below k (near_at G (member a) b s)) → ⊥) → (j : ℕ) → j < G.stages
            → T (near_at G (member a) b s j) → ⊥
        later s h f j i t =
            ⊎_elim (λ l. f ((any_below_lem k (near_at G (member a) b s)).1 (j, l, t)))
            (λ l. f (done-before s h (subst T
            (some-next-same G (within G (member a) b j) (within G (member a) b k) (within-rest G (member a) b k still j l) s) t)))
            (side? j k)
