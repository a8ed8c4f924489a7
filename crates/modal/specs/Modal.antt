-- The six modalities of sets that are numbers, as the crate `logic` tests them (`Test`): what a result is held to in `Computes`.
use Rattle.std.specs.Prelude.{ℕ, ◌&&◌}
use Rattle.model.specs.Graph.{Graph}
use Rattle.logic.specs.Test.{Stages, some_next, each_next, eg, af, ar, eu}
use Rattle.modal.specs.Row.{member}

-- EX: some successor is in a.
abbrev pub ex_of : ℕ → Graph → Stages
ex_of a G = some_next G (member a)

-- EX, asked of some stages only.
abbrev pub ex_among : ℕ → ℕ → Graph → Stages
ex_among among a G s = member among s && some_next G (member a) s

-- AX: each successor is in a.
abbrev pub ax_of : ℕ → Graph → Stages
ax_of a G = each_next G (member a)

-- AX, asked of some stages only.
abbrev pub ax_among : ℕ → ℕ → Graph → Stages
ax_among among a G s = member among s && each_next G (member a) s

-- EG: as many rounds as there are stages, from a, that keep what has a successor in the set.
abbrev pub eg_of : ℕ → Graph → Stages
eg_of a G = eg G (member a)

-- AF: such rounds, from a, that add what has every successor in the set.
abbrev pub af_of : ℕ → Graph → Stages
af_of a G = af G (member a)

-- AR: such rounds, from b, that keep what is in a or has every successor in the set.
abbrev pub ar_of : ℕ → ℕ → Graph → Stages
ar_of a b G = ar G (member a) (member b)

-- EU: such rounds, from b, that add what is in a and has a successor in the set.
abbrev pub eu_of : ℕ → ℕ → Graph → Stages
eu_of a b G = eu G (member a) (member b)
