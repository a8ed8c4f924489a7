-- Document 01, "Dead ends": the set of stages from which no path reaches predicate 0 ("fired"), the stage itself counted; and the refusals of
-- the report, 1 to 5 and then 15.
use Rattle.std.specs.Prelude.{ℕ, ◌<◌, ◌≡◌, List, [], ◌∷◌, ◌++◌, ◌⊎◌, ◌↔◌, ◌≢◌, T}
use Rattle.model.specs.Graph.{Graph}
use Rattle.model.specs.Formula.{Formula, truth, is, EU, one, variable}
use Rattle.logic.specs.Meaning.{Path}
use Rattle.sets.specs.Member.{Has}
use Rattle.format.specs.Refusal.{Condition}
use Rattle.format.specs.Image.{predicates_of, arity_of, image_conditions}
use Rattle.format.specs.declared.Refusal.TheVariants as R

-- Predicate 0 is true of a stage.
abbrev pub Fired : Graph → ℕ → Type 0
Fired G s = T (G.one 0 s)

-- A stage from which no path reaches predicate 0. The first stage of a path counts, so a stage that has fired is none.
pub record DeadEnd (G : Graph) (s : ℕ) : Type 0 where
  pub stage : s < G.stages
  pub never : (p : Path G s) (i : ℕ) → Fired G (p.at i) → ⊥

-- EU(true, fired) at the stage of variable 0, as entry 2 of document 01's example table has it.
abbrev pub can_fire : Formula
can_fire = EU 2 truth 1 (is (one 0 (variable 1))) (variable 0)

-- The set of the dead ends of a graph: these and nothing else.
abbrev pub DeadEndsOf : Graph → ℕ → Type 0
DeadEndsOf G set = (s : ℕ) → Has set s ↔ DeadEnd G s

-- 15 speaks of this: predicate 0 is missing, or not of arity 1.
abbrev pub NothingFires : List ℕ → Type 0
NothingFires image = (predicates_of image ≡ 0) ⊎ (arity_of image 0 ≢ 1)

-- The refusal that the report adds to those of an image; and all its refusals, in their order: 1 to 5, then 15.
abbrev pub fired_conditions : List ℕ → List Condition
fired_conditions image = record { refusal = R.NothingFires; holds = NothingFires image } ∷ []

abbrev pub report_conditions : List ℕ → List Condition
report_conditions image = image_conditions image ++ fired_conditions image
