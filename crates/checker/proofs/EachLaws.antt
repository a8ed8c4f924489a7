-- A loop over the successors of a stage, lowest first: `t = lowest(left)`, something with t, `left = rest(left)`, until `left` is empty. It
-- reads at each successor, ascending, as the rules' `through` does.
--
--     Turns                the invariant: the successors below a number are read, and those from there on are left
--     each-begins, each-stage, each-room, each_next, each-end, each_start
--                          the loop over the successors of a stage of an image
--     each-stops           a fault on the way is the loop's answer
use Prim.Native.Nat.{ℕ, zero, suc, ◌^◌, ◌≤◌, ◌<◌}
use native.Mathlib.Omega.{arith}
use mathlib.Core.Path.{◌≡◌, refl, sym, ap, ap₂, subst, ◌∙◌, fun_ext}
use mathlib.Core.Bool.{Bool, true, false}
use mathlib.Core.List.{List}
use mathlib.Core.Logic.{◌↔◌, ◌≢◌, ⊎_elim}
use lib.Count.{count_trailing_zeros}
use lib.Dec.{T}
use Rattle.sets.specs.Walk.{Turn}
use Rattle.sets.specs.Member.{Has, Empty}
use Rattle.sets.specs.Number.{width}
use Rattle.sets.specs.Row.{held}
use Rattle.sets.specs.declared.Set.{Set}
use Rattle.std.specs.Prelude.{Err}
use Rattle.rules.specs.declared.Stop.{Stop}
use Rattle.sets.proofs.LawsMember.{has-test, empty-zero, side?}
use Rattle.sets.proofs.LawsLowest.{lowest-le, lowest-has, has_rest, rest-small}
use Rattle.sets.proofs.LawsWalk.{walk-room}
use Rattle.format.specs.Image.{stages_of, member, graph_of}
use Rattle.rules.specs.Reading.{Reader, onward, visit, through, Progress}
use Rattle.rules.proofs.Faults.{skipped}
use Rattle.hand.specs.declared.setup.Entry.{Entry}
use Rattle.hand.specs.Hand.{SuccessorsOf}
use Rattle.hand.proofs.SetupLaws.{next-set}
use Rattle.checker.specs.Reading.{Small, Lent}
use Rattle.checker.proofs.ReadingLaws.{nothing, in-turn}

-- Below n: the successors below `from` are read, and those from there on are left.
pub record Turns (n : ℕ) (next : ℕ → Bool) (read : ℕ → Reader) (came : Progress) (left : ℕ) (here : Progress) : Type 0 where
  pub from : ℕ
  pub within : from ≤ n
  pub small : left < 2 ^ width
  pub rest : (t : ℕ) → Has left t ↔ (T (next t) × (from ≤ t))
  pub reads : here ≡ onward came (through from next read)

module _ (n : ℕ) (next : ℕ → Bool) (inside : (t : ℕ) → T (next t) → t < n) (read : ℕ → Reader) (came : Progress) where
  -- At the start every successor is left.
  turns-start : {left : ℕ} → left < 2 ^ width → ((t : ℕ) → member left t ≡ next t) → Turns n next read came left came
  turns-start {left} small same = record {
    from = 0;
    within = omega arith;
    small = small;
    rest = λ t. (
      λ h. (subst T (same t) ((has-test left t).1 h), omega arith),
      λ h. (has-test left t).0 (subst T (sym (same t)) h.0),
    );
    reads = nothing came;
  }

  module _ {left k left' : ℕ} {here : Progress} (g : Turns n next read came left here) (turn : Turn left k left') where
    some : left ≢ 0
    some e = turn.some ((empty-zero left).1 e)

    there : Has left k
    there = subst (Has left) (sym turn.lowest) (lowest-has width left some g.small)

    -- The stage of a turn is a successor.
    turn-stage : T (next k)
    turn-stage = ((g.rest k).0 there).0

    -- Between the last turn and this there is none.
    none_between : (t : ℕ) → g.from ≤ t → t < k → next t ≡ false
    none_between t h l = go (next t) refl
      where
        go : (b : Bool) → next t ≡ b → next t ≡ false
        go true e = absurd (omega (arith, turn.lowest, lowest-le width left t ((g.rest t).1 (subst T (sym e) tt, h))))
        go false e = e

    up-to-here : (at : ℕ) → through k next read at ≡ through g.from next read at
    up-to-here at = skipped next read at g.from k ((g.rest k).0 there).1 none_between

    visited : (b : Bool) (r : Reader) → T b → visit b r ≡ r
    visited true r t = refl
    visited false r t = absurd t

    -- A turn reads at its stage.
    turns_next : {p : Progress} → p ≡ onward here (read k) → Turns n next read came left' p
    turns_next {p} p-is = record {
      from = suc k;
      within = inside k turn-stage;
      small = subst (λ (z : ℕ). z < 2 ^ width) (sym turn.others) (rest-small width left g.small);
      rest = λ t. (
        λ h.
            let m = (has_rest width left t g.small).0 (subst (λ (z : ℕ). Has z t) turn.others h) in
            let d : t ≢ count_trailing_zeros width left = m.1 in
            (((g.rest t).0 m.0).0, omega (arith, turn.lowest, lowest-le width left t m.0, d)),
        λ h.
            subst (λ (z : ℕ). Has z t) (sym turn.others)
            ((has_rest width left t g.small).1
            ((g.rest t).1 (h.0, omega (arith, ((g.rest k).0 there).1, h.1)), λ e. omega (arith, turn.lowest, h.1, e))),
      );
      reads =
          in-turn came (through g.from next read) (read k) g.reads p-is
          ∙ ap (onward came) (fun_ext (λ at. ap₂ onward (sym (up-to-here at)) (sym (visited (next k) (read k) turn-stage))));
    }

  -- At the end there is none left, and all are read.
  turns-end : {left : ℕ} {here : Progress} → Turns n next read came left here → Empty left → here ≡ onward came (through n next read)
  turns-end {left} g none =
      g.reads ∙ ap (onward came) (fun_ext (λ at. sym (skipped next read at g.from n g.within (λ t h l. go t h (next t) refl))))
    where
      go : (t : ℕ) → g.from ≤ t → (b : Bool) → next t ≡ b → next t ≡ false
      go t h true e = absurd (none t ((g.rest t).1 (subst T (sym e) tt, h)))
      go t h false e = e

  -- A fault stays, so where the reading has one the rest of the turns change nothing.
  turns-stop : {left : ℕ} {here : Progress} → Turns n next read came left here → ((k : Reader) → onward here k ≡ here)
      → here ≡ onward came (through n next read)
  turns-stop {left} {here} g stays = up n g.within
    where
      upto : (j : ℕ) → g.from ≡ j → here ≡ onward came (through j next read)
      upto j e = subst (λ (i : ℕ). here ≡ onward came (through i next read)) e g.reads

      up : (j : ℕ) → g.from ≤ j → here ≡ onward came (through j next read)
      up zero h = upto zero (omega arith)
      up (suc j) h = ⊎_elim
          (λ l. upto (suc j) (omega arith))
          (λ l. in-turn came (through j next read) (visit (next j) (read j)) (up j l) (sym (stays (visit (next j) (read j)))))
          (side? j g.from)

-- ---- the successors of a stage

module _ {image table : List ℕ} (small : Small image table) (s : ℕ) (read : ℕ → Reader) (came : Progress) where
  abbrev Each : ℕ → Progress → Type 0
  Each left here = Turns (stages_of image) ((graph_of image).next s) read came left here

  inside : (t : ℕ) → T ((graph_of image).next s t) → t < stages_of image
  inside t h = (small.inside s t h).1

  -- Where the successors of the stage are left, none is read yet.
  pub each-begins : {left : ℕ} → left < 2 ^ width → SuccessorsOf image s left → Each left came
  each-begins h all = turns-start (stages_of image) ((graph_of image).next s) inside read came h all.each

  module _ {left k left' : ℕ} {here : Progress} (g : Each left here) (turn : Turn left k left') where
    pub each-stage : T ((graph_of image).next s k)
    each-stage = turn-stage (stages_of image) ((graph_of image).next s) inside read came g turn

    pub each-room : k < width
    each-room = walk-room turn g.small

    pub each_next : {p : Progress} → p ≡ onward here (read k) → Each left' p
    each_next e = turns_next (stages_of image) ((graph_of image).next s) inside read came g turn e

    pub each-stops : {stop : Stop} → Err stop ≡ onward here (read k) → Err stop ≡ onward came (through (stages_of image) ((graph_of image).next s) read)
    each-stops e = turns-stop (stages_of image) ((graph_of image).next s) inside read came (each_next e) (λ k. refl)

  pub each-end : {left : ℕ} {here : Progress} → Each left here → Empty left → here ≡ onward came (through (stages_of image) ((graph_of image).next s) read)
  each-end g none = turns-end (stages_of image) ((graph_of image).next s) inside read came g none

-- The successors that are left of a row's set are those of the stage.
pub each_start : {image table : List ℕ} {sets : List Set} {entries : List Entry} {side : ℕ} → Lent image table side sets entries → (s : ℕ) (read : ℕ → Reader)
    (came : Progress) {k left : ℕ} → left < 2 ^ width → s < stages_of image → k ≡ s → left ≡ held sets k
    → Turns (stages_of image) ((graph_of image).next s) read came left came
each_start {sets = sets} lent s read came h stage k-is is = each-begins lent.small s read came h (next-set lent.all stage (is ∙ ap (held sets) k-is))
