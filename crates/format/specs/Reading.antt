-- What the parts of the readers say, in the words of `Image`, `Table` and the model: nothing that document 01 states is defined here.
use Rattle.std.specs.Prelude.{ℕ, ◌+◌, ◌≤◌, ◌<◌, ◌≡◌, ◌↔◌, ◌⊎◌, Bool, true, false, List, ◌++◌, length, get_or, Result, Ok, Err}
use Rattle.model.specs.Formula.{Formula, Atom, Term, Names, FreeInAtom, Free, nesting}
use Rattle.sets.specs.Member.{Has, Empty}
use Rattle.sets.specs.Number.{width}
use Rattle.format.specs.Image.{stages_of, set_of, HighBitIn}
use Rattle.format.specs.Table.{Twice, operands_in, operands, record_at, entries_of, Ruled, trees, nth, tree_of}
use Rattle.format.specs.declared.Refusal.{Refusal}
use Rattle.format.specs.declared.Refusal.TheVariants as R

-- The first r successor sets have a stage each and none at n or above; the next, where there is one, has no stage or one at n or above.
pub record Plain (image : List ℕ) (r : ℕ) : Type 0 where
  pub most : r ≤ stages_of image
  pub low : (i : ℕ) → i < r → HighBitIn image i → ⊥
  pub some : (i : ℕ) → i < r → Empty (set_of image i) → ⊥
  pub stops : r < stages_of image → HighBitIn image r ⊎ Empty (set_of image r)

-- An entry stands in a row of operands.
abbrev pub In : ℕ → List ℕ → Type 0
In o row = (i : ℕ) × (i < length row) × (get_or row i 0 ≡ o)

-- The flags hold which entries stand in a row of operands, where none stands in it twice.
pub record Flagged (row : List ℕ) (flags : List Bool) : Type 0 where
  pub size : length flags ≡ 64
  pub seen : (o : ℕ) → o < 64 → (get_or flags o false ≡ true) ↔ In o row
  pub once : Twice row → ⊥

-- The answer to a row of operands: its flags, or 9 where one stands in it twice.
abbrev pub FlagsAnswer : List ℕ → Result (List Bool) Refusal → Type 0
FlagsAnswer row (Ok flags) = Flagged row flags
FlagsAnswer row (Err k) = (k ≡ R.OperandTwice) × Twice row

-- Some operands more: the flags become those of the row with them, or one stands twice in that row.
abbrev pub Noted : List Bool → List ℕ → List Bool → Result (Unit {0}) Refusal → Type 0
Noted before more after (Ok _) = (row : List ℕ) → Flagged row before → Flagged (row ++ more) after
Noted before more after (Err k) = (k ≡ R.OperandTwice) × ((row : List ℕ) → Flagged row before → Twice (row ++ more))

-- Every operand of a row has room in the flags; and so has every operand of the table.
abbrev pub OperandsSmall : List ℕ → Type 0
OperandsSmall row = (i : ℕ) → i < length row → get_or row i 0 < 64

abbrev pub AllSmall : List ℕ → Type 0
AllSmall table = (e : ℕ) → e < entries_of table → OperandsSmall (operands_in (record_at table e))

-- The table has at most 64 entries, their records keep their rules, and an entry with a flag is operand of one of them.
pub record Roots (image table : List ℕ) (seen : List Bool) : Type 0 where
  pub most : entries_of table ≤ 64
  pub ruled : (e : ℕ) → e < entries_of table → Ruled image e (record_at table e)
  pub flagged : (o : ℕ) → o < entries_of table → get_or seen o false ≡ true → In o (operands table (entries_of table))

-- An entry without a flag whose formula nests over 4 modalities.
pub record DeepRoot (image table : List ℕ) (seen : List Bool) (e : ℕ) : Type 0 where
  pub root : get_or seen e false ≡ true → ⊥
  pub deep : 4 < nesting (tree_of image table e)

-- r modalities nest in an entry's formula, whatever the image; one entry adds at most one.
pub record Nested (table : List ℕ) (e r : ℕ) : Type 0 where
  pub is : (image : List ℕ) → r ≡ nesting (tree_of image table e)
  pub most : r ≤ e + 1

-- The same of the formula that entry e has for an operand.
pub record NestedBelow (table : List ℕ) (e o r : ℕ) : Type 0 where
  pub is : (image : List ℕ) → r ≡ nesting (nth (trees image table e) o)
  pub most : r ≤ e

-- The set of a formula's free variables; of an atom's; and of the variable that a term names.
abbrev pub Variables : Formula → ℕ → Type 0
Variables f s = (v : ℕ) → v < width → Has s v ↔ Free v f

abbrev pub NamedInAtom : Atom → ℕ → Type 0
NamedInAtom q s = (v : ℕ) → v < width → Has s v ↔ FreeInAtom v q

abbrev pub Named : Term → ℕ → Type 0
Named t s = (v : ℕ) → v < width → Has s v ↔ Names v t
