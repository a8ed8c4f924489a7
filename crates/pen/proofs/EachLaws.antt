-- A loop over the successors of a stage, lowest first, as `Set::stages` goes. It writes at each successor, ascending, as `through` does.
--
--     Turns                     the invariant: what is to be written at the successors below a number is, and those from there on are left
--     each_start, each-stage, each-edge, each_next, each-end
--                               the loop over the successors of a stage of an image
use Prim.Native.Nat.{ℕ, zero, suc, ◌^◌, ◌≤◌, ◌<◌}
use native.Mathlib.Omega.{arith}
use mathlib.Core.Path.{◌≡◌, refl, sym, ap, ap₂, subst, ◌∙◌}
use mathlib.Core.Bool.{Bool, true, false}
use mathlib.Core.List.{List, ◌++◌, append-nil}
use mathlib.Core.Logic.{◌↔◌, ◌≢◌, ⊎_elim}
use lib.Count.{count_trailing_zeros}
use lib.Dec.{T}
use lib.ListN.{length}
use Rattle.sets.specs.declared.Set.{Set}
use Rattle.sets.specs.Walk.{Turn}
use Rattle.model.specs.Graph.{Graph, Next}
use Rattle.sets.specs.Member.{Has, Empty}
use Rattle.sets.specs.Number.{width}
use Rattle.sets.specs.Row.{held}
use Rattle.sets.proofs.LawsMember.{side?, has-test, empty-zero}
use Rattle.sets.proofs.LawsLowest.{lowest-le, lowest-has, has_rest, rest-small}
use Rattle.modal.specs.Row.{Row}
use Rattle.written.specs.Written.{visit, through}
use Rattle.pen.specs.Wrote.{Wrote}
use Rattle.pen.specs.Steps.{NextOf}
use Rattle.pen.proofs.WroteLaws.{wrote_none, wrote-both, wrote-same}

-- ---- what is written at each successor

-- What is no successor is passed over.
skipped : (next : ℕ → Bool) (f : ℕ → List ℕ) (from k : ℕ) → from ≤ k → ((t : ℕ) → from ≤ t → t < k → next t ≡ false)
    → through k next f ≡ through from next f
skipped next f from zero h none = let e : 0 ≡ from = omega arith in ap (λ (i : ℕ). through i next f) e
skipped next f from (suc k) h none =
    ⊎_elim
    (λ l. ap₂ (λ (a b : List ℕ). a ++ b) (skipped next f from k (omega arith) (λ t g i. none t g (omega arith)))
    (ap (λ (b : Bool). visit b (f k)) (none k (omega arith) (omega arith)))
    ∙ append-nil (through from next f))
    (λ l. let e : suc k ≡ from = omega arith in ap (λ (i : ℕ). through i next f) e)
    (side? from (suc k))

-- ---- the turns of the loop

-- At the successors below `from` everything is written, and those from there on are left.
pub record Turns (n : ℕ) (next : ℕ → Bool) (f : ℕ → List ℕ) (w : Bool) (place : ℕ) (before : List ℕ) (there : ℕ) (left : List ℕ) (here : ℕ) : Type 0 where
  pub from : ℕ
  pub within : from ≤ n
  pub small : there < 2 ^ width
  pub rest : (t : ℕ) → Has there t ↔ (T (next t) × ((t < n) × (from ≤ t)))
  pub wrote : Wrote w (through from next f) place before left here

module _ (n : ℕ) (next : ℕ → Bool) (f : ℕ → List ℕ) (w : Bool) (place : ℕ) (before : List ℕ) where
  -- At the start every successor is left.
  turns-start : {there : ℕ} → place ≤ suc (length before) → there < 2 ^ width → ((t : ℕ) → Has there t ↔ (T (next t) × (t < n)))
      → Turns n next f w place before there before place
  turns-start {there} h small same = record {
    from = 0;
    within = omega arith;
    small = small;
    rest = λ t. (λ g. (((same t).0 g).0, (((same t).0 g).1, omega arith)), λ g. (same t).1 (g.0, g.1.0));
    wrote = wrote_none w place before h;
  }

  module _ {there k others here : ℕ} {left : List ℕ} (g : Turns n next f w place before there left here) (turn : Turn there k others) where
    some : there ≢ 0
    some e = turn.some ((empty-zero there).1 e)

    there-is : Has there k
    there-is = subst (Has there) (sym turn.lowest) (lowest-has width there some g.small)

    -- The stage of a turn is a successor below n.
    turn-stage : T (next k) × (k < n)
    turn-stage = (((g.rest k).0 there-is).0, ((g.rest k).0 there-is).1.0)

    -- Between the last turn and this there is none.
    none_between : (t : ℕ) → g.from ≤ t → t < k → next t ≡ false
    none_between t h l = go (next t) refl
      where
        go : (b : Bool) → next t ≡ b → next t ≡ false
        go true e =
            absurd (omega (arith, turn.lowest, lowest-le width there t ((g.rest t).1 (subst T (sym e) tt, (omega (arith, turn-stage.1), h)))))
        go false e = e

    visited : (b : Bool) (l : List ℕ) → T b → visit b l ≡ l
    visited true l t = refl
    visited false l t = absurd t

    up-to-here : through (suc k) next f ≡ through g.from next f ++ f k
    up-to-here =
        ap₂ (λ (a b : List ℕ). a ++ b) (skipped next f g.from k ((g.rest k).0 there-is).1.1 none_between) (visited (next k) (f k) turn-stage.0)

    -- A turn writes at its stage.
    turns_next : {last : List ℕ} {after : ℕ} → Wrote w (f k) here left last after → Turns n next f w place before others last after
    turns_next wrote = record {
      from = suc k;
      within = turn-stage.1;
      small = subst (λ (z : ℕ). z < 2 ^ width) (sym turn.others) (rest-small width there g.small);
      rest = λ t. (
        λ h.
            let m = (has_rest width there t g.small).0 (subst (λ (z : ℕ). Has z t) turn.others h) in
            let d : t ≢ count_trailing_zeros width there = m.1 in
            let s = (g.rest t).0 m.0 in
            (s.0, (s.1.0, omega (arith, turn.lowest, lowest-le width there t m.0, d))),
        λ h.
            subst (λ (z : ℕ). Has z t) (sym turn.others)
            ((has_rest width there t g.small).1
            ((g.rest t).1 (h.0, (h.1.0, omega (arith, ((g.rest k).0 there-is).1.1, h.1.1))), λ e. omega (arith, turn.lowest, h.1.1, e))),
      );
      wrote = wrote-same (sym up-to-here) (wrote-both g.wrote wrote);
    }

  -- At the end there is none left, and everything is written.
  turns-end : {there here : ℕ} {left : List ℕ} → Turns n next f w place before there left here → Empty there
      → Wrote w (through n next f) place before left here
  turns-end {there} g none = wrote-same (sym (skipped next f g.from n g.within (λ t h l. go t h l (next t) refl))) g.wrote
    where
      go : (t : ℕ) → g.from ≤ t → t < n → (b : Bool) → next t ≡ b → next t ≡ false
      go t h l true e = absurd (none t ((g.rest t).1 (subst T (sym e) tt, (l, h))))
      go t h l false e = e

-- ---- the successors of a stage

module _ {next : List Set} {n : ℕ} {G : Graph} (row : Row next n G) {s : ℕ} (at : s < n) (f : ℕ → List ℕ) (w : Bool) (place : ℕ) (before : List ℕ) where
  abbrev pub Each : ℕ → List ℕ → ℕ → Type 0
  Each there left here = Turns G.stages (G.next s) f w place before there left here

  pub each_start : {there first : ℕ} → place ≤ suc (length before) → there < 2 ^ width → first ≡ there → NextOf next n s there → Each first before place
  each_start {there} h small is t_of = rw is (
      turns-start G.stages (G.next s) f w place before h small (λ t. (
        λ g. let m = (t_of.each t).0 g in
            (subst T (sym (row.edges s t at m.1)) ((has-test (held next s) t).1 m.0), omega (arith, row.stages, m.1)),
        λ g. let l : t < n = omega (arith, row.stages, g.1) in
            (t_of.each t).1 ((has-test (held next s) t).0 (subst T (row.edges s t at l) g.0), l),
      )))

  module _ {there k others here : ℕ} {left : List ℕ} (g : Each there left here) (turn : Turn there k others) where
    pub each-stage : k < n
    each-stage = omega (arith, row.stages, (turn-stage G.stages (G.next s) f w place before g turn).1)

    pub each-edge : Next G s k
    each-edge = (turn-stage G.stages (G.next s) f w place before g turn).0

    pub each_next : {last : List ℕ} {after : ℕ} → Wrote w (f k) here left last after → Each others last after
    each_next wrote = turns_next G.stages (G.next s) f w place before g turn wrote

  pub each-end : {there here : ℕ} {left : List ℕ} → Each there left here → Empty there → Wrote w (through G.stages (G.next s) f) place before left here
  each-end g none = turns-end G.stages (G.next s) f w place before g none
