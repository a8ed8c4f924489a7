-- Document 01, "The example graph": stages 0 armed, 1 in zone, 2 fired, as the bytes of its image and table.
use Rattle.std.specs.Prelude.{ℕ, List, [], ◌∷◌, ◌++◌}

-- A set of three stages, stored: 8 bytes of which only the last is used.
abbrev set : ℕ → List ℕ
set s = 0 ∷ 0 ∷ 0 ∷ 0 ∷ 0 ∷ 0 ∷ 0 ∷ s ∷ []

-- 5A534D0001030101, then sets worth 3, 5, 4, 4.
abbrev pub example_image : List ℕ
example_image = (0x5A ∷ 0x53 ∷ 0x4D ∷ 0x00 ∷ 0x01 ∷ 0x03 ∷ 0x01 ∷ 0x01 ∷ []) ++ (set 3 ++ (set 5 ++ (set 4 ++ set 4)))

-- Entry 2 is EU(true, fired), entry 4 is AF(fired).
abbrev pub example_table : List ℕ
example_table =
    (0x5A ∷ 0x53 ∷ 0x46 ∷ 0x00 ∷ 0x01 ∷ 0x05 ∷ [])
    ++ ((0x02 ∷ 0x00 ∷ 0x00 ∷ 0x00 ∷ 0x00 ∷ 0x41 ∷ [])
    ++ ((0x00 ∷ 0x00 ∷ 0x00 ∷ 0x00 ∷ 0x00 ∷ 0x00 ∷ [])
    ++ ((0x0B ∷ 0x01 ∷ 0x00 ∷ 0x02 ∷ 0x01 ∷ 0x40 ∷ [])
    ++ ((0x02 ∷ 0x00 ∷ 0x00 ∷ 0x00 ∷ 0x00 ∷ 0x41 ∷ []) ++ (0x08 ∷ 0x03 ∷ 0x00 ∷ 0x01 ∷ 0x00 ∷ 0x40 ∷ [])))))
