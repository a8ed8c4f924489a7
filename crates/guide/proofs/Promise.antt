-- What is promised of a guide: it leaves nothing open.
--
--     eg-once    two rows that `eg` leaves are one
--     eu-once    two results of `eu` are one set, and the rows that they leave are one
--
-- Assumes nothing.
use Prim.Native.Nat.{ℕ}
use mathlib.Core.Path.{◌≡◌}
use mathlib.Core.List.{List}
use Rattle.model.specs.Graph.{Graph}
use Rattle.logic.specs.Test.{Stages, eg}
use Rattle.sets.specs.Number.{number}
use Rattle.sets.specs.declared.Set.{Set}
use Rattle.verdict.proofs.Promise.{set-once}
use Rattle.written.specs.Choice.{lowest_next}
use Rattle.guide.specs.Toward.{Filled, Nearest}
use Rattle.guide.proofs.TowardLaws.{filled-once}

module _ (G : Graph) (n : ℕ) (before p q : List ℕ) where
  -- Below n each stage is led to the successor that EG asks for, and from n on the row is as it was.
  pub eg-once : (x : Stages) → Filled n (lowest_next G (eg G x)) before p → Filled n (lowest_next G (eg G x)) before q → p ≡ q
  eg-once x f g = filled-once p q f g

  -- The same for EU, with the set of its nows.
  pub eu-once : (x y : Stages) (a b : Set) → Nearest G n x y (number a) before p → Nearest G n x y (number b) before q → (a ≡ b) × (p ≡ q)
  eu-once x y a b f g = (set-once a b f.nows g.nows, filled-once p q f.leads g.leads)
