-- Document 01, "The example graph": the one line that the program prints, ended by a line feed; and what a writer of a line leaves.
use Rattle.std.specs.Prelude.{ℕ, zero, suc, ◌≤◌, ◌<◌, ◌≡◌, List, [], ◌∷◌, ◌++◌, length, Option, Some, None}
use Rattle.format.specs.Refusal.{number}
use Rattle.format.specs.declared.Refusal.{Refusal}
use Rattle.line.specs.Front.{Front}
use Rattle.line.specs.Text.{ascii, decimal, hex}

abbrev pub space : ℕ
space = 32

abbrev pub line_feed : ℕ
line_feed = 10

-- `yes`, `no` and `refused`.
abbrev pub yes_word : List ℕ
yes_word = ascii "yes"

abbrev pub no_word : List ℕ
no_word = ascii "no"

abbrev pub refused_word : List ℕ
refused_word = ascii "refused"

-- The side word: `yes` for 0, `no` for 1.
abbrev pub side_word : ℕ → List ℕ
side_word zero = yes_word
side_word (suc side) = no_word

-- Side word, certificate length in decimal, certificate in upper-case hex, one space between.
abbrev pub line_of : ℕ → List ℕ → List ℕ
line_of side certificate =
    side_word side ++ (space ∷ (decimal (length certificate) ++ (space ∷ (hex certificate ++ (line_feed ∷ [])))))

-- `refused`, a space and the number.
abbrev pub refusal_line : Refusal → List ℕ
refusal_line k = refused_word ++ (space ∷ (decimal (number k) ++ (line_feed ∷ [])))

-- The program's certificate buffer, in bytes, and what the line of a certificate in it takes at most.
abbrev pub certificate_buffer : ℕ
certificate_buffer = 32768

abbrev pub longest : ℕ
longest = 65547

-- What a writer of a line leaves in its buffer and returns: the whole line at the front and its length; where there is no room for the whole,
-- nothing.
pub record Printed (line before after : List ℕ) (r : Option ℕ) : Type 0 where
  pub whole : length line ≤ length before → (r ≡ Some (length line)) × Front line before after
  pub nothing : length before < length line → (r ≡ None) × (after ≡ before)
