-- `format::image::plain_sets` meets its contract: the loop has found the first i successor sets to have a stage each and none at n or above.
-- Assumes nothing.
use Prim.Native.Nat.{ℕ}
use mathlib.Core.Path.{subst}
use mathlib.Core.Logic.{inl, inr}
use native.Mathlib.Omega.{arith}
use borrow.Author.Count.{below_more}
use Rattle.sets.specs.Member.{Empty}
use Rattle.model.specs.Decides.{decided, refuted}
use Rattle.format.proofs.ImageLaws.{has_all, some-high, none-high}
use Rattle.format.proofs.image.plain_sets.Goals as goal
use Rattle.format.proofs.image.plain_sets.Goals.{then-not-subset-via-then-not-subset, then-not-subset-via-else-not-subset+then-is_empty}

pub returns-then-not-subset : goal.returns-then-not-subset
returns-then-not-subset c =
    let image = c.args.image.now in
    let all = has_all image _ _ c.byte-n.ensures c.requires.stages c.below-all.ensures in
    record {
      most = omega (arith, c.byte-n.ensures, c.loop-i.invariant.0);
      low = c.loop-i.invariant.1;
      some = c.loop-i.invariant.2;
      stops = λ h.
          elim c.then-not-subset.branch [
            | then-not-subset-via-then-not-subset w ↦ inl (some-high image _ _ _ c.set-s.ensures all c.subset.ensures w.if-not-subset.true)
            | then-not-subset-via-else-not-subset+then-is_empty w ↦ inr (subst Empty c.set-s.ensures (decided _ w.is_empty.ensures w.if-is_empty.true))
          ];
    }

pub loop-i-preserved : goal.loop-i-preserved
loop-i-preserved c =
    let image = c.args.image.now in
    let all = has_all image _ _ c.byte-n.ensures c.requires.stages c.below-all.ensures in (
      omega arith,
      below_more _ _ c.loop-i.invariant.1 (none-high image _ _ _ c.set-s.ensures all c.subset.ensures c.if-not-subset.false),
      below_more _ _ c.loop-i.invariant.2 (subst (λ (s : ℕ). Empty s → ⊥) c.set-s.ensures (refuted _ c.is_empty.ensures c.if-is_empty.false)),
    )

pub returns : goal.returns
returns c =
    record {
      most = omega (arith, c.byte-n.ensures);
      low = λ k h. c.loop-i.invariant.1 k (omega arith);
      some = λ k h. c.loop-i.invariant.2 k (omega arith);
      stops = λ h. absurd (omega (arith, c.byte-n.ensures));
    }
