-- The formula of a record in hand: its atom, the stage of its term, and the successors of a stage.
use Rattle.std.specs.Prelude.{ℕ, ◌≡◌, Bool, List}
use Rattle.model.specs.Formula.{Env, value, atom}
use Rattle.format.specs.Image.{member, graph_of}
use Rattle.format.specs.Table.{kind_of, sort_of, term_of, atom_of}
use Rattle.format.specs.declared.record.Record.{Record}
use Rattle.format.specs.declared.record.Sort.{Sort}
use Rattle.format.specs.declared.record.Sort.TheVariants as S

-- The set r holds the successors of s.
pub record SuccessorsOf (image : List ℕ) (s r : ℕ) : Type 0 where
  pub each : (t : ℕ) → member r t ≡ (graph_of image).next s t

-- Whether a record's atom is true.
abbrev pub atom_in : List ℕ → Record → Env → Bool
atom_in image r env = atom (graph_of image) env (atom_of image r)

-- The stage at which a record's formula is in hand: that of a modality's term; of another formula, 0.
abbrev pub start_as : Sort → ℕ → ℕ
start_as S.Constant s = 0
start_as S.Atom s = 0
start_as S.Junction s = 0
start_as S.Unary s = s
start_as S.Binary s = s

abbrev pub start_in : Record → Env → ℕ
start_in r env = start_as (sort_of (kind_of r.kind)) (value env (term_of r.t))
