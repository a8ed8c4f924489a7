-- What a writer of text does: it puts these bytes behind what was written before, into the buffer that it was lent.
use Rattle.std.specs.Prelude.{ℕ, ◌≡◌, List}
use Rattle.line.specs.Front.{Written}
use Rattle.line.specs.declared.text.Text.{Text}

pub record Put (bytes : List ℕ) (before after : Text) : Type 0 where
  pub lent : after.out.ghost_name ≡ before.out.ghost_name
  pub written : Written before.at bytes before.out.now after.out.now after.at
