-- A walk that is held as a set: what it is with a stage added.
--
--     grows              one stage more is on the walk, and there was room for it
--     along-on           the walk with a stage added is read as the rules' longer walk
use Prim.Native.Nat.{ℕ, suc, ◌-◌, ◌^◌, ◌<◌}
use native.Mathlib.Omega.{arith}
use mathlib.Core.Path.{◌≡◌, sym, ap, ap₂, subst, ◌∙◌, fun_ext}
use mathlib.Core.Bool.{Bool, true, false, ◌||◌}
use mathlib.Core.List.{List}
use mathlib.Core.Logic.{inl, inr, ⊎_elim, ◌≢◌, ◌↔◌}
use lib.Bits.{bit_or}
use lib.Count.{ones}
use lib.Dec.{eqb}
use borrow.Author.Tests.{eq-eqb, ne_eqb}
use Rattle.model.specs.Formula.{Env}
use Rattle.logic.specs.Rules.{Walk, also}
use Rattle.sets.specs.Member.{bit, Has}
use Rattle.sets.specs.Number.{single, width}
use Rattle.sets.proofs.LawsMember.{same?, has?, has-with, within-lt}
use Rattle.sets.proofs.LawsCount.{ones-with, ones_lt}
use Rattle.format.specs.Image.{member, graph_of}
use Rattle.format.specs.Table.{tree_of}
use Rattle.rules.specs.Reading.{read_walk, Progress}
use Rattle.hand.specs.Side.{sided}
use Rattle.checker.specs.Reading.{walk_of, read_along, read_on}

-- A stage that is in a set, and one that is not.
pub member-has : (s k : ℕ) → Has s k → member s k ≡ true
member-has s k h = eq-eqb (bit s k) 1 h

pub member-lacks : (s k : ℕ) → (Has s k → ⊥) → member s k ≡ false
member-lacks s k f = ne_eqb (bit s k) 1 f

-- ---- one stage more

module _ {set k s : ℕ} (small : set < 2 ^ width) (room : s < width) (off : Has set s → ⊥) (k-is : k ≡ s) {longer : ℕ} (with-k : longer ≡ bit_or set (single k)) where
  is : longer ≡ bit_or set (single s)
  is = with-k ∙ ap (λ (j : ℕ). bit_or set (single j)) k-is

  pub grows : (ones longer ≡ suc (ones set)) × (ones set < width)
  grows = (ap ones is ∙ ones-with set s room off, ones_lt set width s ((within-lt set width).1 small) room off)

  walk-on : walk_of longer ≡ also (walk_of set) s
  walk-on = fun_ext (λ t. ⊎_elim (λ e. same t e) (λ n. other t n) (same? t s))
    where
      same : (t : ℕ) → t ≡ s → member longer t ≡ (eqb t s || member set t)
      same t e =
          member-has longer t (subst (λ (z : ℕ). Has z t) (sym is) ((has-with set s t).1 (inr (e, room))))
          ∙ ap (λ (b : Bool). b || member set t) (sym (eq-eqb t s e))

      kept : (t : ℕ) → t ≢ s → Has longer t ↔ Has set t
      kept t n = (
        λ h. ⊎_elim (λ g. g) (λ g. absurd (n g.0)) ((has-with set s t).0 (subst (λ (z : ℕ). Has z t) is h)),
        λ h. subst (λ (z : ℕ). Has z t) (sym is) ((has-with set s t).1 (inl h)),
      )

      other : (t : ℕ) → t ≢ s → member longer t ≡ (eqb t s || member set t)
      other t n =
          ⊎_elim
          (λ h. member-has longer t ((kept t n).1 h) ∙ sym (member-has set t h))
          (λ f. member-lacks longer t (λ h. f ((kept t n).0 h)) ∙ sym (member-lacks set t f))
          (has? set t)
          ∙ ap (λ (b : Bool). b || member set t) (sym (ne_eqb t s n))

  -- The walk is read as the rules' walk with s added, and its fuel is one less.
  pub along-on : (image table bytes : List ℕ) (side e : ℕ) (env : Env) (t at : ℕ) {p : Progress}
      → p ≡ read_along image table bytes side e env longer t at → p ≡ read_on image table bytes side e env set s t at
  unfolding read_along read_on
  along-on image table bytes side e env t at p-is =
      let fuel : suc (width - ones longer) ≡ width - ones set = omega (arith, grows.0, grows.1) in
      p-is ∙ ap₂ (λ (n : ℕ) (w : Walk). read_walk width (graph_of image) bytes (sided side (tree_of image table e)) env n w t at) fuel walk-on
