-- Document 01, marked case 1: the first steps of its certificate, as `read_heads` reads them.
use Prim.Native.Nat.{ℕ}
use mathlib.Core.Path.{◌≡◌, refl}
use mathlib.Core.List.{List, [], ◌∷◌}
use Rattle.rules.specs.Kind.{Kind, number}
use Rattle.rules.specs.Head.{head_of, step_by}
use Rattle.rules.specs.declared.Rule.{Rule}
use Rattle.std.specs.Prelude.{Ok, Err}
use Rattle.rules.specs.declared.Unread.{Unread}
use Rattle.reader.specs.Place.{heads_of}

abbrev certificate : List ℕ
certificate = 0x5A ∷ 0x53 ∷ 0x43 ∷ 0 ∷ 1 ∷ 0 ∷ 2 ∷ 0 ∷ 0x10 ∷ 1 ∷ 0 ∷ 0x10 ∷ 2 ∷ 0 ∷ 0x0F ∷ 1 ∷ []

-- EU goes on at stage 1, and then comes the step of "true".
pub first-steps : heads_of certificate 8 (number Kind.EU) (number Kind.True)
    ≡ record { first = Ok (step_by (Rule.EuLater 1) 10); second = Ok (step_by Rule.True 11); place = 11 }
unfolding head_of
first-steps = refl

-- After the last step, which is that of "fired", a code byte is missing.
pub past_the_end : heads_of certificate 15 (number Kind.Is) (number Kind.True) ≡ record { first = Ok (step_by Rule.Holds 16); second = Err Unread.Missing; place = 16 }
unfolding head_of
past_the_end = refl

-- The code at the first place is not one for AF; the reader stays there, and finds that it is one for EU.
pub another-kind : heads_of certificate 8 (number Kind.AF) (number Kind.EU) ≡ record { first = Err Unread.Wrong; second = Ok (step_by (Rule.EuLater 1) 10); place = 10 }
unfolding head_of
another-kind = refl
