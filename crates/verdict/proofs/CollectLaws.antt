-- Sets of stages that pass a test (`Collects`): those that the operations of the crate `sets` make, and a set that a loop fills stage by
-- stage. A law takes what the contract of an operation says of the number that it gives.
--
--     collects-as, collects-by                   a test that is the same below n; a set that the crate `modal` worked out
--     collects-all, collects-none, computes_none every stage, and none
--     collects-both, collects-either, collects-lacks, collects-clip
--                                                in both sets, in either, in none, and what a set has below n
--     settled-none, settled-all                  the first operand settles "and", and "or"
--     collects-start, collects-take, collects-skip, collects-end
--                                                no stage yet; one more, which passes the test or does not; and all
--     collects-once                              one set collects a test
--
-- Assumes nothing.
use Prim.Native.Nat.{ℕ, ◌+◌, ◌-◌, ◌≤◌, ◌<◌}
use native.Mathlib.Omega.{arith}
use mathlib.Core.Path.{◌≡◌, refl, sym, ap, ap₂, ◌∙◌, subst}
use mathlib.Core.Bool.{Bool, true, false, not, ◌&&◌, ◌||◌}
use mathlib.Core.List.{List}
use mathlib.Core.Logic.{◌⊎◌, inl, inr, ⊎_elim}
use lib.Bits.{bit_and, bit_or}
use lib.Dec.{T}
use borrow.Author.Tests.{eq-eqb, ne_eqb}
use Rattle.sets.specs.declared.Set.{Set}
use Rattle.model.specs.Decides.{Decides}
use Rattle.model.specs.Graph.{Graph}
use Rattle.logic.specs.Test.{Stages}
use Rattle.sets.specs.Member.{bit, Has, Within, Empty}
use Rattle.sets.specs.Number.{single, width}
use Rattle.sets.proofs.LawsMember.{same?, has-test, has-and, has-with, within-antisym}
use Rattle.modal.specs.Row.{member, Row, Computes}
use Rattle.modal.proofs.LawsMember.{member-says, member-or, member-and, member-minus, member-none, member-all}
use Rattle.modal.proofs.LawsMember.{below, inside-or, inside-left, inside-minus, inside-all}
use Rattle.verdict.specs.Kinds.{joined, Settled, always}
use Rattle.verdict.specs.Evaluation.{Collects}

-- What collects one test collects any that is the same below n.
pub collects-as : {n r : ℕ} {op op' : Stages} → ((s : ℕ) → s < n → op s ≡ op' s) → Collects n op r → Collects n op' r
collects-as same c = record { inside = c.inside; right = λ s h. c.right s h ∙ same s h }

-- So does a set that was worked out for the graph that a row holds.
pub collects-by : {next : List Set} {n r : ℕ} {G : Graph} {op : Graph → Stages} → Row next n G → Computes next n op r → Collects n (op G) r
collects-by {G = G} R c = record { inside = c.inside; right = c.right G R }

-- Every stage below n, and none.
pub collects-all : {n r : ℕ} → n ≤ width → r ≡ below n → Collects n (always true) r
collects-all w e = record { inside = inside-all e; right = member-all e w }

pub collects-none : {n r : ℕ} → r ≡ 0 → Collects n (always false) r
collects-none {n} {r} e = record { inside = λ k h. absurd (lacks k h); right = λ s h. member-none e s }
  where
    lacks : (k : ℕ) → Has r k → ⊥
    lacks k h = subst T (member-none e k) ((has-test r k).1 h)

-- No stage is worked out for a test that none passes.
pub computes_none : {next : List Set} {n r : ℕ} → r ≡ 0 → Computes next n (λ G s. false) r
computes_none {n = n} e = let c = collects-none {n = n} e in record { inside = c.inside; right = λ G R s h. c.right s h }

module _ {n : ℕ} {p q : Stages} (a b : ℕ) {r : ℕ} where
  -- The stages of both sets, and of either.
  pub collects-both : Collects n p a → Collects n q b → r ≡ bit_and a b → Collects n (λ s. p s && q s) r
  collects-both c d e = record {
    inside = inside-left a b e c.inside;
    right = λ s h. member-and a b e s ∙ ap₂ ◌&&◌ (c.right s h) (d.right s h);
  }

  pub collects-either : Collects n p a → Collects n q b → r ≡ bit_or a b → Collects n (λ s. p s || q s) r
  collects-either c d e = record {
    inside = inside-or a b e c.inside d.inside;
    right = λ s h. member-or a b e s ∙ ap₂ ◌||◌ (c.right s h) (d.right s h);
  }

-- The stages below n that are not in a set.
pub collects-lacks : {n r all : ℕ} {p : Stages} (a : ℕ) → n ≤ width → all ≡ below n → Collects n p a → r ≡ all - bit_and all a → Collects n (λ s. not (p s)) r
collects-lacks {all = all} a w f c e = record {
  inside = inside-minus all a e (inside-all f);
  right = λ s h. member-minus all a e s ∙ ap₂ (λ x y. x && not y) (member-all f w s h) (c.right s h);
}

-- What a set has below n.
pub collects-clip : {n r all : ℕ} (a : ℕ) → n ≤ width → all ≡ below n → r ≡ bit_and a all → Collects n (member a) r
collects-clip {n} {r} {all} a w f e = record {
  inside = λ k h. inside-all f k ((has-and a all k).0 (subst (λ (x : ℕ). Has x k) e h)).1;
  right = λ s h. member-and a all e s ∙ ap (◌&&◌ (member a s)) (member-all f w s h) ∙ and-true (member a s);
}
  where
    and-true : (b : Bool) → (b && true) ≡ b
    and-true true = refl
    and-true false = refl

-- ---- "and" and "or" with the first operand alone

-- "And" is settled where the first operand holds at no stage.
pub settled-none : (r : Bool) (n a : ℕ) {first : Bool} → first ≡ true → Decides r (Empty a) → Settled r n first a
settled-none true n a first-is none = λ s h b.
    let lacks : member a s ≡ false = ne_eqb (bit a s) 1 (none s) in
    ap₂ (λ (f m : Bool). joined f m b) first-is lacks ∙ sym lacks
settled-none false n a first-is some = tt

-- "Or" is settled where it holds at every stage below n.
pub settled-all : (r : Bool) (n a : ℕ) {all : ℕ} {first : Bool} → first ≡ false → n ≤ width → all ≡ below n → Decides r (Within all a) → Settled r n first a
settled-all true n a {all} first-is w all-is within = λ s h b.
    let has : member a s ≡ true = eq-eqb (bit a s) 1 (within s ((has-test all s).0 (subst T (sym (member-all all-is w s h)) tt))) in
    ap₂ (λ (f m : Bool). joined f m b) first-is has ∙ sym has
settled-all false n a first-is w all-is some = tt

-- ---- a set filled stage by stage

-- Before the first stage there is none.
pub collects-start : {r : ℕ} (op : Stages) → r ≡ 0 → Collects 0 op r
collects-start op e = record { inside = (collects-none e).inside; right = λ s h. absurd (omega arith) }

module _ {s r r' : ℕ} {op : Stages} (c : Collects s op r) where
  -- One stage more, which passes the test or does not.
  more : ((k : ℕ) → Has r' k → Has r k ⊎ (k ≡ s)) → ((k : ℕ) → Has r k → Has r' k) → member r' s ≡ op s → Collects (s + 1) op r'
  more from keeps own = record {
    inside = λ k h. ⊎_elim (λ o. let i = c.inside k o in omega arith) (λ e. omega arith) (from k h);
    right = λ k i. ⊎_elim
        (λ e. subst (λ (j : ℕ). member r' j ≡ op j) (sym e) own)
        (λ f. member-says r' k (member r k) (λ h. ⊎_elim (λ o. o) (λ e. absurd (f e)) (from k h), keeps k) (has-test r k)
        ∙ c.right k (omega arith))
        (same? k s);
  }

  pub collects-take : s < width → op s ≡ true → r' ≡ bit_or r (single s) → Collects (s + 1) op r'
  collects-take w t e =
      more
      (λ k h. ⊎_elim inl (λ p. inr p.0) ((has-with r s k).0 (subst (λ (x : ℕ). Has x k) e h)))
      (λ k h. subst (λ (x : ℕ). Has x k) (sym e) ((has-with r s k).1 (inl h)))
      (eq-eqb (bit r' s) 1 (subst (λ (x : ℕ). Has x s) (sym e) ((has-with r s s).1 (inr (refl, w)))) ∙ sym t)

  pub collects-skip : op s ≡ false → r' ≡ r → Collects (s + 1) op r'
  collects-skip t e =
      more
      (λ k h. inl (subst (λ (x : ℕ). Has x k) e h))
      (λ k h. subst (λ (x : ℕ). Has x k) (sym e) h)
      (ne_eqb (bit r' s) 1 (λ h. let i = c.inside s (subst (λ (x : ℕ). Has x s) e h) in omega arith) ∙ sym t)

-- After the last stage the set is whole.
pub collects-end : {n s r : ℕ} {op : Stages} → s ≤ n → n ≤ s → Collects s op r → Collects n op r
collects-end {n} {s} {r} {op} l g c =
    let e : s ≡ n = omega arith in
    subst (λ (k : ℕ). Collects k op r) e c

-- ---- one set

-- Two sets that collect one test are one number.
pub collects-once : {n : ℕ} {op : Stages} (r r' : ℕ) → Collects n op r → Collects n op r' → r ≡ r'
collects-once {n} r r' c d = within-antisym r r' (within r r' c d) (within r' r d c)
  where
    within : {op : Stages} (a b : ℕ) → Collects n op a → Collects n op b → Within a b
    within a b f g k h =
        let i = f.inside k h in
        (has-test b k).0 (subst T (f.right k i ∙ sym (g.right k i)) ((has-test a k).1 h))
