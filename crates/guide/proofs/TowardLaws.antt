-- Rows that lead each stage to a successor: what stands in a row that is filled, and the lowest successor in a set as trailing zeros give it.
--
--     cleared-new                                         a row that leads nowhere
--     filled-as, filled-after, filled-once                other words for what stands in it; filled once more; one row is so filled
--     lowest-found, lowest-lacks                          the lowest stage of what a stage's successors and a set have in common
--     lowest-in-row                                       the lowest successor in a set, of the graph that a row of successor sets holds
--     settle-start, settle-stage, settle-turn, settle-end that successor for the stages that are new, one after the other
--     fill-each                                           and for every stage
--
-- Assumes nothing.
use Prim.Native.Nat.{ℕ, ◌^◌, ◌≤◌, ◌<◌}
use native.Mathlib.Omega.{arith}
use mathlib.Core.Path.{◌≡◌, refl, sym, ap, ap₂, ◌∙◌, subst}
use mathlib.Core.Bool.{Bool, true, false, not, ◌&&◌}
use mathlib.Core.List.{List}
use mathlib.Core.Logic.{⊎_elim, ◌≢◌}
use lib.Bits.{bit_and}
use lib.Count.{count_trailing_zeros}
use lib.Dec.{T, eqb}
use lib.ListN
use lib.ListN.{length, get_or, length-set, replicate, get_or-replicate}
use lib.Seq.{get_or-set_same, get_or-set_other, ext_get_or}
use borrow.Author.Tests.{eq-eqb, ne_eqb}
use Rattle.sets.specs.Walk.{Turn}
use Rattle.sets.specs.declared.Set.{Set}
use Rattle.model.specs.Graph.{Graph}
use Rattle.model.specs.Formula.{pick}
use Rattle.logic.proofs.Booleans.{T_and}
use Rattle.sets.specs.Member.{bit, Has, Within, Empty}
use Rattle.sets.specs.Number.{width}
use Rattle.sets.specs.Row.{held}
use Rattle.sets.proofs.LawsLowest
use Rattle.sets.proofs.LawsMember.{same?, side?, has-test, has-and}
use Rattle.sets.proofs.LawsWalk.{walk-has}
use Rattle.modal.specs.Row.{member, Row, Inside}
use Rattle.modal.proofs.LawsMember.{below, member-all}
use Rattle.written.specs.Choice.{lowest, lowest_next}
use Rattle.written.proofs.LowestLaws.{lowest-is, lowest-none, lowest-same}
use Rattle.guide.specs.Toward.{Filled, Cleared, lowest_in, settled}

-- ---- a row that is filled

-- A new row of zeros leads nowhere.
pub cleared-new : {n : ℕ} → n ≤ width → Cleared n (replicate width 0)
cleared-new w s h = get_or-replicate {A = ℕ} width s 0 0 (omega arith)

-- What is put in counts below n alone.
pub filled-as : {n : ℕ} {v w : ℕ → ℕ} {before after : List ℕ} → ((s : ℕ) → s < n → v s ≡ w s) → Filled n v before after → Filled n w before after
filled-as same f = record { each = λ s h. f.each s h ∙ same s h; kept = f.kept; size = f.size }

-- A row filled once more is as it was filled last.
pub filled-after : {n : ℕ} {v w : ℕ → ℕ} {before mid after : List ℕ} → Filled n v before mid → Filled n w mid after → Filled n w before after
filled-after f g = record { each = g.each; kept = λ s h. g.kept s h ∙ f.kept s h; size = g.size ∙ f.size }

-- Two rows filled alike are one.
pub filled-once : {n : ℕ} {v : ℕ → ℕ} {before : List ℕ} (a b : List ℕ) → Filled n v before a → Filled n v before b → a ≡ b
filled-once {n} a b f g =
    ext_get_or 0 a b (f.size ∙ sym g.size)
    (λ s h. ⊎_elim (λ l. f.each s l ∙ sym (g.each s l)) (λ l. f.kept s l ∙ sym (g.kept s l)) (side? s n))

-- ---- the lowest successor in a set

module _ (next : List Set) (n set s : ℕ) {loaded both low : ℕ} (l : loaded ≡ held next s) (e : both ≡ bit_and loaded set)
    (z : low ≡ count_trailing_zeros width both) where
  -- A stage is in both exactly when it is a successor in the set.
  both_is : (t : ℕ) → Has both t → T (member (held next s) t && member set t)
  both_is t h =
      let p = (has-and loaded set t).0 (subst (λ (x : ℕ). Has x t) e h) in
      (T_and (member (held next s) t) (member set t)).1 ((has-test (held next s) t).1 (subst (λ (x : ℕ). Has x t) l p.0), (has-test set t).1 p.1)

  is-both : (t : ℕ) → T (member (held next s) t && member set t) → Has both t
  is-both t u =
      let p = (T_and (member (held next s) t) (member set t)).0 u in
      subst (λ (x : ℕ). Has x t) (sym e)
      ((has-and loaded set t).1 (subst (λ (x : ℕ). Has x t) (sym l) ((has-test (held next s) t).0 p.0), (has-test set t).0 p.1))

  -- No lower stage is in both.
  none-lower : (t : ℕ) → t < low → T (member (held next s) t && member set t) → ⊥
  none-lower t h u = omega (arith, LawsLowest.lowest-le width both t (is-both t u))

  -- Where the lowest stage of both is below n, it is the lowest successor in the set;
  pub lowest-found : n ≤ width → low < n → low ≡ lowest_in next n set s
  lowest-found w h =
      sym (lowest-is n (λ t. member (held next s) t && member set t) low h
      (both_is low (subst (Has both) (sym z) (LawsLowest.lowest-in width both (omega arith)))) none-lower)

  -- where it is not, there is none.
  pub lowest-lacks : n ≤ low → 0 ≡ lowest_in next n set s
  lowest-lacks h = sym (lowest-none n (λ t. member (held next s) t && member set t) (λ t i u. none-lower t (omega arith) u))

-- The lowest successor in a set, of the graph that the row of successor sets holds.
pub lowest-in-row : {next : List Set} {n : ℕ} {G : Graph} → Row next n G → (set s : ℕ) → s < n → lowest_in next n set s ≡ lowest_next G (member set) s
lowest-in-row {next} {n} {G} R set s h =
    lowest-same n (λ t. member (held next s) t && member set t) (λ t. G.next s t && member set t)
    (λ t i. ap (λ (b : Bool). b && member set t) (sym (R.edges s t h i)))
    ∙ ap (λ (k : ℕ). lowest k (λ t. G.next s t && member set t)) (sym R.stages)

-- ---- the new stages, one after the other

-- The new stages that are not left are led to their lowest successor in a set, and all else is as it was.
pub record Settling (next : List Set) (n new set : ℕ) (before : List ℕ) (left : ℕ) (row : List ℕ) : Type 0 where
  pub small : left < 2 ^ width
  pub inside : Inside n left
  pub among : Within left new
  pub filled : Filled n (λ s. pick (member new s && not (member left s)) (lowest_in next n set s) (get_or before s 0)) before row

module _ (next : List Set) (n new set : ℕ) {before : List ℕ} where
  -- At the start all are left.
  pub settle-start : {left : ℕ} → new < 2 ^ width → Inside n new → left ≡ new → Settling next n new set before left before
  settle-start {left} w i e = record {
    small = omega (arith, w, e);
    inside = λ s h. i s (sym (ap (λ (x : ℕ). bit x s) e) ∙ h);
    among = λ s h. sym (ap (λ (x : ℕ). bit x s) e) ∙ h;
    filled = record {
      each = λ s h. ap (λ (b : Bool). pick b (lowest_in next n set s) (get_or before s 0)) (sym (ap (λ (x : ℕ). member new s && not (member x s)) e ∙ none
          (member new s)));
      kept = λ s h. refl;
      size = refl;
    };
  }
    where
      none : (b : Bool) → (b && not b) ≡ false
      none true = refl
      none false = refl

  module _ {left k left' : ℕ} {row : List ℕ} (g : Settling next n new set before left row) (turn : Turn left k left') where
    -- The stage of a turn is below n.
    pub settle-stage : k < n
    settle-stage = g.inside k (walk-has turn g.small)

    -- A turn leads its stage, and no other.
    pub settle-turn : (v : ℕ) → n ≤ length before → v ≡ lowest_in next n set k → Settling next n new set before left' (ListN.set row k v)
    settle-turn v room v-is = record {
      small = omega (arith, turn.others, LawsLowest.rest-small width left g.small);
      inside = λ s h. g.inside s (still s h);
      among = λ s h. g.among s (still s h);
      filled = record {
        each = λ s h. ⊎_elim
            (λ q. ap (λ (j : ℕ). get_or (ListN.set row k v) j 0) q ∙ get_or-set_same row k v 0 fits ∙ v-is
            ∙ sym (ap (λ (j : ℕ). value j) q ∙ ap (λ (b : Bool). pick b (lowest_in next n set k) (get_or before k 0)) here))
            (λ d. get_or-set_other row k s v 0 d ∙ g.filled.each s h
            ∙ ap (λ (b : Bool). pick (member new s && not b) (lowest_in next n set s) (get_or before s 0))
            (sym (ap (λ (j : ℕ). eqb j 1) (other s d)))) (same? s k);
        kept = λ s h. get_or-set_other row k s v 0 (omega (arith, settle-stage)) ∙ g.filled.kept s h;
        size = length-set row k v ∙ g.filled.size;
      };
    }
      where
        value : ℕ → ℕ
        value s = pick (member new s && not (member left' s)) (lowest_in next n set s) (get_or before s 0)

        fits : k < length row
        fits = omega (arith, settle-stage, g.filled.size)

        other : (s : ℕ) → s ≢ k → bit left' s ≡ bit left s
        other s d = ap (λ (x : ℕ). bit x s) turn.others ∙ LawsLowest.rest-other width left s g.small (λ e. d (e ∙ sym turn.lowest))

        gone : bit left' k ≡ 0
        gone = ap₂ bit turn.others turn.lowest ∙ LawsLowest.rest-lowest width left g.small

        still : (s : ℕ) → Has left' s → Has left s
        still s h = ⊎_elim (λ q. subst (Has left) (sym q) (walk-has turn g.small)) (λ d. sym (other s d) ∙ h) (same? s k)

        here : (member new k && not (member left' k)) ≡ true
        here =
            ap₂ (λ (b c : Bool). b && not c) (eq-eqb (bit new k) 1 (g.among k (walk-has turn g.small)))
            (ne_eqb (bit left' k) 1 (λ h. omega (arith, gone, h)))

  -- At the end none is left.
  pub settle-end : {left : ℕ} {row : List ℕ} → Settling next n new set before left row → Empty left
      → Filled n (settled next n new set before) before row
  settle-end {left} g none =
      filled-as (λ s h. ap (λ (b : Bool). pick b (lowest_in next n set s) (get_or before s 0))
      (ap (λ (b : Bool). member new s && not b) (ne_eqb (bit left s) 1 (none s)) ∙ and-true (member new s))) g.filled
    where
      and-true : (b : Bool) → (b && true) ≡ b
      and-true true = refl
      and-true false = refl

-- Where every stage is to be led to its lowest successor, each is.
pub fill-each : (next : List Set) (n all set : ℕ) {before after : List ℕ} → n ≤ width → all ≡ below n
    → Filled n (settled next n all set before) before after → Filled n (lowest_in next n set) before after
fill-each next n all set {before} w e f =
    filled-as (λ s h. ap (λ (b : Bool). pick b (lowest_in next n set s) (get_or before s 0)) (member-all e w s h)) f
