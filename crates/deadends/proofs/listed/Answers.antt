-- `deadends::listed` meets its contract: what EU(true, fired) leaves of the stages, counted.
use mathlib.Core.Path.{ap, ◌∙◌}
use lib.Dec.{lit≤}
use Rattle.format.specs.Image.{set_of}
use Rattle.deadends.proofs.DeadEndLaws.{all-stages, clear-row, listed-dead}
use Rattle.deadends.proofs.listed.Goals as goal

pub returns : goal.returns
returns c =
    let stages-is = all-stages c.requires.0 c.requires.1 c.min-stages.ensures in
    let row = clear-row c.requires.0 stages-is (lit≤ tt) c.decode.ensures in
    let fired = c.set-fired.ensures ∙ ap (set_of c.args.image.now) c.first_set.ensures.is in
    record {
      clear = c.requires.0;
      dead = listed-dead c.requires.0 row c.below-all.ensures fired c.eu-able.ensures c.minus-dead.ensures;
      many = c.count.ensures;
    }
