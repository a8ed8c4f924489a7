-- What the readers of steps answer, in the words of the crate `rules` (`read_formula`, `read_walk`, `read_premises`): the same readings, of the
-- formula that an entry of the table has on a side, with the walk held as a set. Nothing that document 01 states is defined here.
use Rattle.hand.specs.declared.setup.Entry.{Entry}
use Rattle.sets.specs.declared.Set.{Set}
use Rattle.std.specs.Prelude.{ℕ, suc, ◌-◌, ◌≤◌, ◌<◌, ◌≡◌, Bool, true, false, ◌&&◌, List, T, ltb}
use Rattle.std.specs.Int.Count.{ones}
use Rattle.model.specs.Formula.{Env, bind, pick, value}
use Rattle.logic.specs.Rules.{Walk, also}
use Rattle.sets.specs.Number.{width}
use Rattle.format.specs.Image.{stages_of, member, graph_of}
use Rattle.format.specs.Table.{entries_of, record_at, nth, trees, tree_of, term_of, BadRecord}
use Rattle.format.specs.declared.record.Record.{Record}
use Rattle.rules.specs.Kind.{Kind}
use Rattle.rules.specs.Table.{row, body, Part}
use Rattle.rules.specs.Reading.{Reader, leads, meets, parts, through, read_premises, read_walk, read_formula}
use Rattle.rules.specs.declared.Rule.{Rule}
use Rattle.hand.specs.Side.{sided}
use Rattle.hand.specs.Setup.{AllSets, most_entries, entry_at, entry_of}
use Rattle.hand.specs.Hand.{atom_in}

-- What the readers go by, which holds of a setup that is not refused: edges join stages, for each of which a set has room, and x and y are
-- variables 0 to 3.
pub record Small (image table : List ℕ) : Type 0 where
  pub inside : (s t : ℕ) → T ((graph_of image).next s t) → (s < stages_of image) × (t < stages_of image)
  pub stages : stages_of image ≤ width
  pub x : (e : ℕ) → (record_at table e).x < 4
  pub y : (e : ℕ) → (record_at table e).y < 4

-- A set as a walk.
abbrev pub walk_of : ℕ → Walk
walk_of set = λ t. member set t

-- Whether a rule's chosen stage is a successor of s and its own condition holds, for the formula of a record at the stage s of a walk.
abbrev pub allows : List ℕ → Record → Env → ℕ → ℕ → Rule → Bool
allows image r env set s rule =
    leads (graph_of image) s (row rule).chosen && meets (atom_in image r env) (walk_of set) s (body rule).condition

-- "And" and "or" bind nothing; what the rules of the other kinds prove of a and b, they prove with x and y bound.
abbrev pub binds : Kind → Bool
binds Kind.True = true
binds Kind.False = true
binds Kind.Is = true
binds Kind.IsNot = true
binds Kind.And = false
binds Kind.Or = false
binds Kind.AX = true
binds Kind.EX = true
binds Kind.AF = true
binds Kind.EG = true
binds Kind.AR = true
binds Kind.EU = true

abbrev pub within : Bool → Env → ℕ → ℕ → Env
within true env x s = bind env x s
within false env x s = env

module _ (image table bytes : List ℕ) (side : ℕ) where
  -- An entry's formula, and that of an operand of entry e.
  unfoldable pub read_entry : ℕ → Env → Reader
  read_entry e env = read_formula width (graph_of image) bytes (sided side (tree_of image table e)) env

  unfoldable pub read_operand : ℕ → ℕ → Env → Reader
  read_operand e o env = read_formula width (graph_of image) bytes (sided side (nth (trees image table e) o)) env

  -- The a and b of a record of entry e, with x and y at a stage.
  abbrev pub read_a : ℕ → Record → Env → ℕ → Reader
  read_a e r env t = read_operand e r.a (bind env r.x t)

  abbrev pub read_b : ℕ → Record → Env → ℕ → Reader
  read_b e r env t = read_operand e r.b (bind env r.y t)

  -- A walk, with fuel for every stage that is not on it; and the same further on, with s added to it.
  unfoldable pub read_along : ℕ → Env → ℕ → ℕ → Reader
  read_along e env set s = read_walk width (graph_of image) bytes (sided side (tree_of image table e)) env (suc (width - ones set)) (walk_of set) s

  unfoldable pub read_on : ℕ → Env → ℕ → ℕ → ℕ → Reader
  read_on e env set s t = read_walk width (graph_of image) bytes (sided side (tree_of image table e)) env (width - ones set) (also (walk_of set) s) t

  -- At each successor of s: a; and the walk.
  abbrev pub read_each_a : ℕ → Record → Env → ℕ → Reader
  read_each_a e r env s = through (stages_of image) ((graph_of image).next s) (λ t. read_a e r env t)

  abbrev pub read_each_on : ℕ → Env → ℕ → ℕ → Reader
  read_each_on e env set s = through (stages_of image) ((graph_of image).next s) (λ t. read_on e env set s t)

  -- The premises of a rule, at the stage s of a walk.
  abbrev pub parts_of : ℕ → Record → Env → ℕ → ℕ → Bool → Part → ℕ → Reader
  parts_of e r env set s bound =
      parts (λ t. read_operand e r.a (within bound env r.x t)) (λ t. read_operand e r.b (within bound env r.y t))
      (λ t. read_on e env set s t)

  abbrev pub read_premises_of : ℕ → Record → Env → ℕ → ℕ → Rule → Reader
  read_premises_of e r env set s rule = read_premises (graph_of image) (parts_of e r env set s (binds (row rule).kind)) s (body rule).premises

-- What the readers are lent of a setup that is not refused: the sets of its image, and the entries of its table on a side.
pub record Lent (image table : List ℕ) (side : ℕ) (sets : List Set) (entries : List Entry) : Type 0 where
  pub small : Small image table
  pub some : 1 ≤ stages_of image
  pub all : AllSets image sets
  pub few : entries_of table ≤ most_entries
  pub entry : (e : ℕ) → e < entries_of table → entry_at entries e ≡ entry_of image side (record_at table e)
  pub ruled : BadRecord image table → ⊥

-- What a reader asks. An entry's formula is in hand, with every variable at a stage; and it stands at a stage of its walk.
pub record InHand (image table : List ℕ) (e : ℕ) (env : Env) : Type 0 where
  pub below : e < entries_of table
  pub inside : (v : ℕ) → env v < stages_of image

pub record OnWalk (image table : List ℕ) (e : ℕ) (env : Env) (s : ℕ) : Type 0 where
  pub hand : InHand image table e env
  pub stage : s < stages_of image

-- The stage at which a walk starts, by an entry's kind and term.
pub record Started (kind t : ℕ) (env : Env) (s : ℕ) : Type 0 where
  pub is : s ≡ pick (ltb kind 6) 0 (value env (term_of t))
