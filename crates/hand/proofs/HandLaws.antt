-- The formula in hand: its kind on a side, its atom, and the successors of a stage. Each law takes what the contracts of the code say of plain
-- values.
--
--     member_is                          a test of membership is `member`
--     other-side                         on side 1 the kind is the dual's
--     atom-two-is, atom-one-is           an atom, as membership in one of its predicate's sets
--     successors-in, leads-is            the successors of a stage
use Prim.Native.Nat.{ℕ, zero, suc, ◌+◌, ◌<◌}
use mathlib.Core.Path.{◌≡◌, refl, sym, ap, ap₂, ◌∙◌}
use mathlib.Core.Bool.{Bool, true, false, ◌&&◌}
use mathlib.Core.List.{List}
use borrow.Author.Tests.{eq-eqb, ne_eqb, lt-ltb}
use Rattle.model.specs.Decides.{Decides}
use Rattle.model.specs.Formula.{Env, value, atom}
use Rattle.sets.specs.Member.{bit, Has}
use Rattle.format.specs.Image.{stages_of, arity_of, first_set, set_of, member, graph_of}
use Rattle.format.specs.Table.{term_of}
use Rattle.format.specs.declared.record.Record.{Record}
use Rattle.format.specs.declared.record.Kind.{Kind}
use Rattle.format.proofs.TreeLaws.{atom-one, atom-two}
use Rattle.hand.specs.Side.{dual_kind, kind_on}
use Rattle.hand.specs.Hand.{atom_in, SuccessorsOf}

-- What a test of membership gives is `member`.
pub member_is : (s k : ℕ) (r : Bool) → Decides r (Has s k) → r ≡ member s k
member_is s k true d = sym (eq-eqb (bit s k) 1 d)
member_is s k false d = sym (ne_eqb (bit s k) 1 d)

-- On a side that is not 0 the kind is the dual's.
pub other-side : (side : ℕ) (k : Kind) → (side ≡ 0 → ⊥) → dual_kind k ≡ kind_on side k
other-side zero k f = absurd (f refl)
other-side (suc n) k f = refl

-- An atom is membership: of arity 2, in the set of the first term's stage; of another arity, in the predicate's one set.
module _ (image : List ℕ) (r : Record) (env : Env) {first : ℕ} (f : first ≡ first_set image r.a) where
  pub atom-two-is : {t u set : ℕ} {b : Bool} → arity_of image r.a ≡ 2 → t ≡ value env (term_of r.t) → u ≡ value env (term_of r.b)
      → set ≡ set_of image (first + t) → Decides b (Has set u) → b ≡ atom_in image r env
  atom-two-is {u = u} {set = set} {b = b} e t-is u-is set_is d =
      member_is set u b d
      ∙ ap₂ member (set_is ∙ ap₂ (λ (i j : ℕ). set_of image (i + j)) f t-is) u-is
      ∙ ap (atom (graph_of image) env) (sym (atom-two image r e))

  pub atom-one-is : {t set : ℕ} {b : Bool} → (arity_of image r.a ≡ 2 → ⊥) → t ≡ value env (term_of r.t)
      → set ≡ set_of image first → Decides b (Has set t) → b ≡ atom_in image r env
  atom-one-is {t} {set} {b} n t-is set_is d =
      member_is set t b d ∙ ap₂ member (set_is ∙ ap (set_of image) f) t-is ∙ ap (atom (graph_of image) env) (sym (atom-one image r n))

-- A stage has its successor set.
pub successors-in : (image : List ℕ) (s : ℕ) {r : ℕ} → s < stages_of image → r ≡ set_of image s → SuccessorsOf image s r
successors-in image s h e = record {
  each = λ t. ap (λ (z : ℕ). member z t) e ∙ ap (λ (b : Bool). b && member (set_of image s) t) (sym (lt-ltb s (stages_of image) h));
}

-- A test of membership in it says whether c is a successor.
pub leads-is : (image : List ℕ) (s c : ℕ) {r : ℕ} {b : Bool} → SuccessorsOf image s r → Decides b (Has r c) → b ≡ (graph_of image).next s c
leads-is image s c {r} {b} f d = member_is r c b d ∙ f.each c
