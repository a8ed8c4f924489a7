-- To which successor a formula goes on, from the sets of its operands.
--
--     ex-leads    the lowest successor at which a holds
--     eg-leads    the lowest at which EG holds
--     eu-leads    the one fewest steps from a now
--
-- Assumes nothing.
use Prim.Native.Nat.{ℕ, ◌<◌}
use native.Mathlib.Omega.{arith}
use mathlib.Core.Path.{◌≡◌, ◌∙◌}
use mathlib.Core.List.{List}
use Rattle.sets.specs.declared.Set.{Set}
use Rattle.model.specs.Graph.{Graph}
use Rattle.logic.specs.Test.{Stages, eg}
use Rattle.modal.specs.Row.{member, Row, Computes}
use Rattle.modal.specs.Modal.{eg_of}
use Rattle.modal.proofs.LawsOnce.{eg-agrees}
use Rattle.verdict.specs.Evaluation.{Collects}
use Rattle.written.specs.Choice.{lowest_next, nearest}
use Rattle.written.proofs.LowestLaws.{lowest-next-same}
use Rattle.guide.specs.Toward.{Filled, lowest_in, Nearest}
use Rattle.guide.proofs.TowardLaws.{filled-as, lowest-in-row}
use Rattle.guide.proofs.NearestLaws.{nearest-same}

module _ {next : List Set} {n : ℕ} {G : Graph} (R : Row next n G) where
  pub ex-leads : (x : Stages) {set s r : ℕ} → Collects n x set → s < n → r ≡ lowest_in next n set s → r ≡ lowest_next G x s
  ex-leads x {set} {s} c h e =
      e ∙ lowest-in-row R set s h ∙ lowest-next-same G (member set) x (λ t i. c.right t (omega (arith, R.stages))) s

  pub eg-leads : (x : Stages) {set from : ℕ} {before after : List ℕ} → Collects n x set → Computes next n (eg_of set) from
      → Filled n (lowest_in next n from) before after → Filled n (lowest_next G (eg G x)) before after
  eg-leads x {set} {from} c m f =
      filled-as (λ s h. lowest-in-row R from s h ∙ lowest-next-same G (member from) (eg G x)
      (λ t i. m.right G R t (omega (arith, R.stages)) ∙ eg-agrees G (λ u l. c.right u (omega (arith, R.stages))) t i) s) f

  pub eu-leads : (x y : Stages) {a b : ℕ} {before after : List ℕ} → Collects n x a → Collects n y b
      → ((G : Graph) → Row next n G → Filled n (nearest G (member a) (member b)) before after) → Nearest G n x y b before after
  eu-leads x y {a} {b} c d f = record {
    nows = d;
    leads = filled-as (λ s h. nearest-same G (member a) x (member b) y (λ t i. c.right t (omega (arith, R.stages)))
        (λ t i. d.right t (omega (arith, R.stages))) s) (f G R);
  }
