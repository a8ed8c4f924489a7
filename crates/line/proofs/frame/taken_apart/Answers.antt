-- `line::frame::taken_apart` meets its contract: an input has parts where two parts follow each other and two bytes follow these.
-- Assumes nothing.
use mathlib.Core.Path.{sym, ap, ◌∙◌}
use mathlib.Core.List.{[], ◌∷◌}
use lib.ListN.{length}
use Rattle.std.proofs.Common.{arith}
use Rattle.line.specs.Framing.{counted}
use Rattle.line.proofs.FramingLaws.{counted-once, rest-told}
use Rattle.line.proofs.frame.taken_apart.Goals as goal
use Rattle.line.proofs.frame.taken_apart.Goals.{in_default-via-then-rest-lt2, in_default-via-else-rest-lt2+else-rest-lt3}

pub returns-in_err-table : goal.returns-in_err-table
returns-in_err-table c =
    rw c.from_residual-in_err-table.ensures
    (λ image table goal start e. c.in_err-table.ensures table (goal ∷ start ∷ []) (counted-once (sym c.in_ok-image.ensures ∙ e)).1)

pub returns-in_default : goal.returns-in_default
returns-in_default c image table goal start e =
    let two = ap length (rest-told (ap (counted c.in_ok-image.image.now) (sym c.in_ok-table.ensures) ∙ sym c.in_ok-image.ensures ∙ e)).2 in
    elim c.in_default.branch [
      | in_default-via-then-rest-lt2 w ↦ absurd (grind (arith, two))
      | in_default-via-else-rest-lt2+else-rest-lt3 w ↦ absurd (grind (arith, two))
    ]
