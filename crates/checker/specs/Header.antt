-- Document 01, "Certificate": `ZSC`, version 1, side, goal, start, then the steps; and the conditions of the refusals 20 and 21.
use Rattle.std.specs.Prelude.{ℕ, ◌≤◌, ◌≡◌, List, [], ◌∷◌}
use Rattle.format.specs.Bytes.{byte_at, Begins}
use Rattle.format.specs.Refusal.{Condition}
use Rattle.format.specs.declared.Refusal.TheVariants as R

-- The side that a certificate proves.
abbrev pub side_of : List ℕ → ℕ
side_of certificate = byte_at certificate 5

-- 20 speaks of the length, the mark, the version and the side.
pub record HeaderFits (certificate : List ℕ) : Type 0 where
  pub begins : Begins 0x43 8 certificate
  pub side : side_of certificate ≤ 1

-- It names this goal and start, as they came, however large.
pub record NamesQuestion (certificate : List ℕ) (goal start : ℕ) : Type 0 where
  pub goal_is : byte_at certificate 6 ≡ goal
  pub start_is : byte_at certificate 7 ≡ start

-- The refusals of a header, in their order.
abbrev pub header_conditions : List ℕ → ℕ → ℕ → List Condition
header_conditions certificate goal start =
    record { refusal = R.CertificateStart; holds = HeaderFits certificate → ⊥ }
    ∷ record { refusal = R.OtherQuestion; holds = NamesQuestion certificate goal start → ⊥ }
    ∷ []

-- A header: 8 bytes.
abbrev pub header_of : ℕ → ℕ → ℕ → List ℕ
header_of side goal start = 0x5A ∷ 0x53 ∷ 0x43 ∷ 0 ∷ 1 ∷ side ∷ goal ∷ start ∷ []
