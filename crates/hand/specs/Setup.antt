-- What is prepared once of a setup: the sets of an image in a row, and the entries of a table, on a side, in another.
use Rattle.std.specs.Prelude.{ℕ, ◌+◌, ◌/◌, ◌≤◌, ◌<◌, ◌≡◌, Bool, true, false, List, ◌≢◌, eqb, length, get_or}
use Rattle.model.specs.Formula.{Env, pick, value}
use Rattle.sets.specs.declared.Set.{Set}
use Rattle.sets.specs.Row.{held, room}
use Rattle.format.specs.Image.{arity_of, first_set, set_of, member}
use Rattle.format.specs.Table.{kind_of, record_at, term_of}
use Rattle.format.specs.declared.record.Record.{Record}
use Rattle.hand.specs.Side.{kind_on, number_of}
use Rattle.hand.specs.declared.setup.Entry.{Entry}

-- `after` is `before` with the first `count` sets of the image put in, as far as there is room; the first sets of an image are its successor sets.
pub record Decoded (image : List ℕ) (count : ℕ) (before after : List Set) : Type 0 where
  pub sets : (i : ℕ) → i < count → i < room before → held after i ≡ set_of image i
  pub others : (i : ℕ) → count ≤ i → held after i ≡ held before i
  pub size : length after ≡ length before

-- A row that holds every set of an image, and nothing past the last.
pub record AllSets (image : List ℕ) (sets : List Set) : Type 0 where
  pub each : (i : ℕ) → held sets i ≡ set_of image i

-- How many entries there is room for, as many as any table has.
abbrev pub most_entries : ℕ
most_entries = 64

-- The entry of a record on a side: its kind is the kind in hand, and an atom has its predicate's arity and first set.
abbrev pub of_atom : ℕ → ℕ → ℕ
of_atom kind v = pick (eqb (kind / 2) 1) v 0

abbrev pub kind_in : ℕ → Record → ℕ
kind_in side r = number_of (kind_on side (kind_of r.kind))

unfoldable pub entry_of : List ℕ → ℕ → Record → Entry
entry_of image side r =
    record {
      kind = kind_in side r;
      a = r.a;
      b = r.b;
      x = r.x;
      y = r.y;
      t = r.t;
      arity = of_atom (kind_in side r) (arity_of image r.a);
      first = of_atom (kind_in side r) (first_set image r.a);
    }

-- Entry e of a row of entries; past the end one whose fields are 0.
abbrev pub blank : Entry
blank = record { kind = 0; a = 0; b = 0; x = 0; y = 0; t = 0; arity = 0; first = 0 }

abbrev pub entry_at : List Entry → ℕ → Entry
entry_at entries e = get_or entries e blank

-- `after` is `before` with the first m entries of the table prepared on a side, in a row with room for just the entries of any table; another row is as
-- it was.
pub record Prepared (image table : List ℕ) (m side : ℕ) (before after : List Entry) : Type 0 where
  pub entries : (e : ℕ) → e < m → e < most_entries → length before ≡ most_entries → entry_at after e ≡ entry_of image side (record_at table e)
  pub others : (e : ℕ) → m ≤ e → e < most_entries → entry_at after e ≡ entry_at before e
  pub kept : length before ≢ most_entries → after ≡ before
  pub size : length after ≡ length before

-- Whether an entry's atom is true, from a row of sets: of arity 2, whether the second term's stage is in the set of the first's; of another, whether
-- the term's stage is in the predicate's one set.
abbrev pub atom_by : Bool → List Set → Entry → Env → Bool
atom_by true sets p env = member (held sets (p.first + value env (term_of p.t))) (value env (term_of p.b))
atom_by false sets p env = member (held sets p.first) (value env (term_of p.t))

unfoldable pub atom_from : List Set → Entry → Env → Bool
atom_from sets p env = atom_by (eqb p.arity 2) sets p env
