-- Document 01, "Certificate" and "The steps of a proof": the certificate of a derivation is its header, which names the side, the goal and the
-- start, and then the derivation's steps. Nothing here is about how a certificate is checked.
use Rattle.std.specs.Prelude.{ℕ, ◌<◌, ◌≡◌, List, [], ◌∷◌, ◌++◌}
use Rattle.logic.specs.Rules.{Derived}
use Rattle.format.specs.Image.{graph_of}
use Rattle.format.specs.Table.{tree_of}
use Rattle.rules.specs.Steps.{encode}
use Rattle.hand.specs.Side.{sided}
use Rattle.checker.specs.Header.{header_of}
use Rattle.hand.specs.Environment.{started}

-- What derives the goal's formula on a side, where variable 0 stands at the start.
abbrev pub Derivation : List ℕ → List ℕ → ℕ → ℕ → ℕ → Type 0
Derivation image table goal start side = Derived (graph_of image) (sided side (tree_of image table goal)) (started start)

-- Its certificate.
abbrev pub certificate_of : (image table : List ℕ) (goal start side : ℕ) → Derivation image table goal start side → List ℕ
certificate_of image table goal start side d = header_of side goal start ++ encode (graph_of image) (sided side (tree_of image table goal)) (started start) d

-- A certificate is that of some derivation.
abbrev pub Certifies : List ℕ → List ℕ → ℕ → ℕ → ℕ → List ℕ → Type 0
Certifies image table goal start side certificate =
    (d : Derivation image table goal start side) × (certificate ≡ certificate_of image table goal start side d)

-- A row of bytes: what a buffer can hold.
abbrev pub Bytes : List ℕ → Type 0
Bytes [] = Unit {0}
Bytes (b ∷ bs) = (b < 256) × Bytes bs
