-- Document 01, "Formula table": the records, the trees that they give, and the conditions of the refusals 6 to 10. The table is read with
-- the image, which says how many stages and predicates there are and of which arity.
use Rattle.std.specs.Prelude.{ℕ, zero, suc, ◌+◌, ◌-◌, ◌*◌, ◌≤◌, ◌<◌, ◌≡◌, Bool, true, false, Option, IsSome, List, [], ◌∷◌, ◌++◌, length, get_or, slice_get, eqb, ltb}
use Rattle.model.specs.Formula.{Term, stage, variable, Atom, one, two, Formula, truth, falsity, is, is_not, and, or, AX, EX, AF, EG, AR, EU, nesting}
use Rattle.format.specs.Bytes.{byte_at, Begins}
use Rattle.format.specs.Image.{stages_of, predicates_of, arity_of}
use Rattle.format.specs.Refusal.{Condition}
use Rattle.format.specs.declared.Refusal.TheVariants as R
use Rattle.format.specs.declared.record.Record.{Record}
use Rattle.format.specs.declared.record.Kind.{Kind}
use Rattle.format.specs.declared.record.Kind.TheVariants as K
use Rattle.format.specs.declared.record.Sort.{Sort}
use Rattle.format.specs.declared.record.Sort.TheVariants as S

-- m: how many entries.
abbrev pub entries_of : List ℕ → ℕ
entries_of table = byte_at table 5

-- The record of an entry: 6 bytes.
abbrev pub record_at : List ℕ → ℕ → Record
record_at table e =
    record {
      kind = byte_at table (6 + 6 * e);
      a = byte_at table (7 + 6 * e);
      b = byte_at table (8 + 6 * e);
      x = byte_at table (9 + 6 * e);
      y = byte_at table (10 + 6 * e);
      t = byte_at table (11 + 6 * e);
    }

-- The kinds, by their numbers; a number above 11 has none.
abbrev pub kinds : List Kind
kinds = K.True ∷ K.False ∷ K.Is ∷ K.IsNot ∷ K.And ∷ K.Or ∷ K.AX ∷ K.EX ∷ K.AF ∷ K.EG ∷ K.AR ∷ K.EU ∷ []

abbrev pub kind_with : ℕ → Option Kind
kind_with k = slice_get kinds k

-- The kind that a number counts as: what is no kind counts as false.
abbrev pub kind_of : ℕ → Kind
kind_of k = get_or kinds k K.False

-- The rows of document 01's table of kinds: the kinds of a row use the same fields.
abbrev pub sort_of : Kind → Sort
sort_of K.True = S.Constant
sort_of K.False = S.Constant
sort_of K.Is = S.Atom
sort_of K.IsNot = S.Atom
sort_of K.And = S.Junction
sort_of K.Or = S.Junction
sort_of K.AX = S.Unary
sort_of K.EX = S.Unary
sort_of K.AF = S.Unary
sort_of K.EG = S.Unary
sort_of K.AR = S.Binary
sort_of K.EU = S.Binary

-- A term is 0 to n - 1, a stage, or 64 to 67, a variable.
pub data IsTerm (n t : ℕ) : Type 0 where
  a_stage : t < n → IsTerm n t
  a_variable : 64 ≤ t → t ≤ 67 → IsTerm n t

-- The second term of an atom: there where the arity is 2, else unused.
pub data SecondTerm (n arity b : ℕ) : Type 0 where
  unused : (arity ≡ 2 → ⊥) → b ≡ 0 → SecondTerm n arity b
  used : arity ≡ 2 → IsTerm n b → SecondTerm n arity b

-- The rules of each row. Unused fields are 0; x and y are 0 to 3; an operand has a lower number than its own entry.
pub record ConstantRule (r : Record) : Type 0 where
  pub a : r.a ≡ 0
  pub b : r.b ≡ 0
  pub x : r.x ≡ 0
  pub y : r.y ≡ 0
  pub t : r.t ≡ 0

pub record AtomRule (image : List ℕ) (r : Record) : Type 0 where
  pub predicate : r.a < predicates_of image
  pub first : IsTerm (stages_of image) r.t
  pub second : SecondTerm (stages_of image) (arity_of image r.a) r.b
  pub x : r.x ≡ 0
  pub y : r.y ≡ 0

pub record JunctionRule (e : ℕ) (r : Record) : Type 0 where
  pub a : r.a < e
  pub b : r.b < e
  pub x : r.x ≡ 0
  pub y : r.y ≡ 0
  pub t : r.t ≡ 0

pub record UnaryRule (n e : ℕ) (r : Record) : Type 0 where
  pub a : r.a < e
  pub b : r.b ≡ 0
  pub x : r.x ≤ 3
  pub y : r.y ≡ 0
  pub t : IsTerm n r.t

pub record BinaryRule (n e : ℕ) (r : Record) : Type 0 where
  pub a : r.a < e
  pub b : r.b < e
  pub x : r.x ≤ 3
  pub y : r.y ≤ 3
  pub t : IsTerm n r.t

abbrev pub RuledAs : Sort → List ℕ → ℕ → Record → Type 0
RuledAs S.Constant image e r = ConstantRule r
RuledAs S.Atom image e r = AtomRule image r
RuledAs S.Junction image e r = JunctionRule e r
RuledAs S.Unary image e r = UnaryRule (stages_of image) e r
RuledAs S.Binary image e r = BinaryRule (stages_of image) e r

-- An entry's record has a kind and keeps its rules.
pub record Ruled (image : List ℕ) (e : ℕ) (r : Record) : Type 0 where
  pub known : IsSome (kind_with r.kind)
  pub keeps : RuledAs (sort_of (kind_of r.kind)) image e r

-- The entries that a record has as operands.
abbrev pub operands_as : Sort → Record → List ℕ
operands_as S.Constant r = []
operands_as S.Atom r = []
operands_as S.Junction r = r.a ∷ r.b ∷ []
operands_as S.Unary r = r.a ∷ []
operands_as S.Binary r = r.a ∷ r.b ∷ []

abbrev pub operands_in : Record → List ℕ
operands_in r = operands_as (sort_of (kind_of r.kind)) r

-- The operands of the first e entries, in order.
unfoldable pub operands : List ℕ → ℕ → List ℕ
operands table zero = []
operands table (suc e) = operands table e ++ operands_in (record_at table e)

-- A term's number: below 64 a stage, from there on a variable.
abbrev pub pick_term : Bool → Term → Term → Term
pick_term true s v = s
pick_term false s v = v

abbrev pub term_of : ℕ → Term
term_of t = pick_term (ltb t 64) (stage t) (variable (t - 64))

abbrev pub pick_atom : Bool → Atom → Atom → Atom
pick_atom true s v = s
pick_atom false s v = v

-- The atom of a record: t is the first term, b the second where the arity is 2.
abbrev pub atom_of : List ℕ → Record → Atom
atom_of image r = pick_atom (eqb (arity_of image r.a) 2) (two r.a (term_of r.t) (term_of r.b)) (one r.a (term_of r.t))

-- The formula of a record, from those of the entries below it.
abbrev pub made_as : Kind → List ℕ → (ℕ → Formula) → Record → Formula
made_as K.True image tree r = truth
made_as K.False image tree r = falsity
made_as K.Is image tree r = is (atom_of image r)
made_as K.IsNot image tree r = is_not (atom_of image r)
made_as K.And image tree r = and (tree r.a) (tree r.b)
made_as K.Or image tree r = or (tree r.a) (tree r.b)
made_as K.AX image tree r = AX r.x (tree r.a) (term_of r.t)
made_as K.EX image tree r = EX r.x (tree r.a) (term_of r.t)
made_as K.AF image tree r = AF r.x (tree r.a) (term_of r.t)
made_as K.EG image tree r = EG r.x (tree r.a) (term_of r.t)
made_as K.AR image tree r = AR r.x (tree r.a) r.y (tree r.b) (term_of r.t)
made_as K.EU image tree r = EU r.x (tree r.a) r.y (tree r.b) (term_of r.t)

abbrev pub made : List ℕ → (ℕ → Formula) → Record → Formula
made image tree r = made_as (kind_of r.kind) image tree r

-- The formula with a number in a list of them.
abbrev pub nth : List Formula → ℕ → Formula
nth trees i = get_or trees i falsity

-- The formulas of the first e entries, in order. An operand has a lower number, so its formula is among those before.
unfoldable pub trees : List ℕ → List ℕ → ℕ → List Formula
trees image table zero = []
trees image table (suc e) = let before = trees image table e in before ++ (made image (λ i. nth before i) (record_at table e) ∷ [])

-- The formula of an entry.
abbrev pub tree_of : List ℕ → List ℕ → ℕ → Formula
tree_of image table e = nth (trees image table (suc e)) e

-- 7 speaks of m's range and the total length.
pub record EntriesFit (table : List ℕ) : Type 0 where
  pub some : 1 ≤ entries_of table
  pub most : entries_of table ≤ 64
  pub total : length table ≡ 6 + 6 * entries_of table

-- A record has a kind above 11 or breaks its kind's rules.
pub record BadRecord (image table : List ℕ) : Type 0 where
  pub entry : ℕ
  pub below : entry < entries_of table
  pub broken : Ruled image entry (record_at table entry) → ⊥

-- In a row of operands, two places hold the same entry.
pub record Twice (row : List ℕ) : Type 0 where
  pub first : ℕ
  pub second : ℕ
  pub apart : first < second
  pub there : second < length row
  pub same : get_or row first 0 ≡ get_or row second 0

-- An entry is operand twice in the whole table.
abbrev pub OperandTwice : List ℕ → Type 0
OperandTwice table = Twice (operands table (entries_of table))

-- The formula of some entry nests over 4 modalities.
pub record NestedTooDeep (image table : List ℕ) : Type 0 where
  pub entry : ℕ
  pub below : entry < entries_of table
  pub deep : 4 < nesting (tree_of image table entry)

-- The refusals of a formula table, in their order.
abbrev pub table_conditions : List ℕ → List ℕ → List Condition
table_conditions image table =
    record { refusal = R.TableStart; holds = Begins 0x46 6 table → ⊥ }
    ∷ record { refusal = R.TableLength; holds = EntriesFit table → ⊥ }
    ∷ record { refusal = R.BadRecord; holds = BadRecord image table }
    ∷ record { refusal = R.OperandTwice; holds = OperandTwice table }
    ∷ record { refusal = R.NestedTooDeep; holds = NestedTooDeep image table }
    ∷ []
