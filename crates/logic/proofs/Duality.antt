-- The dual of a formula is its negation. It is shown on the test, for every graph and without conditions: `test-dual`. The meaning follows.
--
--     dual_dual                                        the dual of the dual is the formula
--     Blind, dual-same                                 what does not tell a kind from its dual kind is the same of the dual:
--     dual-below, dual-free, dual-nesting              the stages that are named, the free variables, the nesting
--     eg-outside, af-outside, ar-outside, eu-outside   a modality over the negations is the negation of its dual
--     test-dual                                        the test of the dual is the negated test
--     dual-holds                                       the dual holds exactly when the formula does not
--     holds-or-dual                                    the formula holds or its dual does
use Prim.Native.Nat.{ℕ, suc, max}
use mathlib.Core.Path.{◌≡◌, refl, sym, ap, ap₂, ◌∙◌, fun_ext}
use mathlib.Core.Bool.{Bool, not, ◌&&◌, ◌||◌}
use mathlib.Core.Logic.Iff
use mathlib.Core.Logic.{◌↔◌, ◌⊎◌, inl, inr, ⊎_elim}
use lib.Dec.{T}
use Rattle.model.specs.Graph.{Graph, Readable}
use Rattle.model.specs.Formula.{Term, Atom, Formula, truth, falsity, is, is_not, and, or, AX, EX, AF, EG, AR, EU, Env, bind, value, atom, dual, Names}
use Rattle.model.specs.Formula.{Under, Free, nesting, TermBelow, Below}
use Rattle.logic.specs.Meaning.{Holds}
use Rattle.logic.proofs.Booleans.{T_not, decide, not-and, not-or, not-not}
use Rattle.logic.specs.Test.{Stages, outside, each_next, some_next, release_or_each, here_and_some, eg, af, ar, eu, test, Stand}
use Rattle.logic.proofs.Rounds.{flip}
use Rattle.logic.proofs.Successors.{not-some-next, not-each-next}
use Rattle.logic.proofs.TestMeaning.{test-holds}

-- The dual of the dual is the formula.
pub dual_dual : (f : Formula) → dual (dual f) ≡ f
dual_dual truth = refl
dual_dual falsity = refl
dual_dual (is q) = refl
dual_dual (is_not q) = refl
dual_dual (and a b) = ap₂ and (dual_dual a) (dual_dual b)
dual_dual (or a b) = ap₂ or (dual_dual a) (dual_dual b)
dual_dual (AX x a t) = ap (λ c. AX x c t) (dual_dual a)
dual_dual (EX x a t) = ap (λ c. EX x c t) (dual_dual a)
dual_dual (AF x a t) = ap (λ c. AF x c t) (dual_dual a)
dual_dual (EG x a t) = ap (λ c. EG x c t) (dual_dual a)
dual_dual (AR x a y b t) = ap₂ (λ c d. AR x c y d t) (dual_dual a) (dual_dual b)
dual_dual (EU x a y b t) = ap₂ (λ c d. EU x c y d t) (dual_dual a) (dual_dual b)

-- What does not tell a kind from its dual kind.
pub record Blind {ℓ} {X : Type ℓ} (P : Formula → X) : Type ℓ where
  pub constant : P truth ≡ P falsity
  pub literal : (q : Atom) → P (is q) ≡ P (is_not q)
  pub junction : {a c b d : Formula} → P a ≡ P c → P b ≡ P d → P (and a b) ≡ P (or c d)
  pub next : (x : ℕ) (t : Term) {a c : Formula} → P a ≡ P c → P (AX x a t) ≡ P (EX x c t)
  pub always : (x : ℕ) (t : Term) {a c : Formula} → P a ≡ P c → P (AF x a t) ≡ P (EG x c t)
  pub until : (x y : ℕ) (t : Term) {a c b d : Formula} → P a ≡ P c → P b ≡ P d → P (AR x a y b t) ≡ P (EU x c y d t)

-- Such a thing is the same of the dual.
pub dual-same {ℓ} : {X : Type ℓ} {P : Formula → X} → Blind P → (f : Formula) → P (dual f) ≡ P f
dual-same B truth = sym B.constant
dual-same B falsity = B.constant
dual-same B (is q) = sym (B.literal q)
dual-same B (is_not q) = B.literal q
dual-same B (and a b) = sym (B.junction (sym (dual-same B a)) (sym (dual-same B b)))
dual-same B (or a b) = B.junction (dual-same B a) (dual-same B b)
dual-same B (AX x a t) = sym (B.next x t (sym (dual-same B a)))
dual-same B (EX x a t) = B.next x t (dual-same B a)
dual-same B (AF x a t) = sym (B.always x t (sym (dual-same B a)))
dual-same B (EG x a t) = B.always x t (dual-same B a)
dual-same B (AR x a y b t) = sym (B.until x y t (sym (dual-same B a)) (sym (dual-same B b)))
dual-same B (EU x a y b t) = B.until x y t (dual-same B a) (dual-same B b)

-- The dual names the same stages.
pub dual-below : (n : ℕ) (f : Formula) → Below n f → Below n (dual f)
dual-below n f b = rw (dual-same blind f) b
  where
    blind : Blind (Below n)
    blind = record {
      constant = refl;
      literal = λ q. refl;
      junction = λ p r. ap₂ (λ A B. A × B) p r;
      next = λ x t p. ap (λ A. TermBelow n t × A) p;
      always = λ x t p. ap (λ A. TermBelow n t × A) p;
      until = λ x y t p r. ap₂ (λ A B. TermBelow n t × A × B) p r;
    }

-- The same variables are free in it.
pub dual-free : (v : ℕ) (f : Formula) → Free v (dual f) ↔ Free v f
dual-free v f = rw (dual-same blind f) Iff.rfl
  where
    blind : Blind (Free v)
    blind = record {
      constant = refl;
      literal = λ q. refl;
      junction = λ p r. ap₂ (λ A B. A ⊎ B) p r;
      next = λ x t p. ap (λ A. Names v t ⊎ Under v x A) p;
      always = λ x t p. ap (λ A. Names v t ⊎ Under v x A) p;
      until = λ x y t p r. ap₂ (λ A B. Names v t ⊎ (Under v x A ⊎ Under v y B)) p r;
    }

-- Its modalities nest as deep.
pub dual-nesting : (f : Formula) → nesting (dual f) ≡ nesting f
dual-nesting f = dual-same blind f
  where
    blind : Blind nesting
    blind = record {
      constant = refl;
      literal = λ q. refl;
      junction = λ p r. ap₂ max p r;
      next = λ x t p. ap suc p;
      always = λ x t p. ap suc p;
      until = λ x y t p r. ap₂ (λ k m. suc (max k m)) p r;
    }

-- ---- the modalities, from outside

-- The outside of the outside is the set, and sets lie outside one another in pairs.
outside-outside : (x : Stages) → outside (outside x) ≡ x
outside-outside x = fun_ext (λ s. not-not (x s))

swap : {x y : Stages} → x ≡ outside y → y ≡ outside x
swap {x} {y} e = sym (outside-outside y) ∙ ap outside (sym e)

module _ (G : Graph) where
  -- AF of not a is not EG of a, and EG of not a is not AF of a.
  pub af-outside : (a : Stages) → af G (outside a) ≡ outside (eg G a)
  af-outside a = flip (some_next G) (each_next G) (not-some-next G) (outside a) a refl G.stages

  pub eg-outside : (a : Stages) → eg G (outside a) ≡ outside (af G a)
  eg-outside a = swap (ap (af G) (sym (outside-outside a)) ∙ af-outside (outside a))

  -- EU of not a and not b is not AR of a and b, and AR of not a and not b is not EU of a and b.
  pub eu-outside : (a b : Stages) → eu G (outside a) (outside b) ≡ outside (ar G a b)
  eu-outside a b = flip (release_or_each G a) (here_and_some G (outside a)) across (outside b) b refl G.stages
    where
      across : (y : Stages) → here_and_some G (outside a) (outside y) ≡ outside (release_or_each G a y)
      across y = fun_ext (λ s. ap (λ (x : Stages). not (a s) && x s) (not-each-next G y) ∙ sym (not-or (a s) (each_next G y s)))

  pub ar-outside : (a b : Stages) → ar G (outside a) (outside b) ≡ outside (eu G a b)
  ar-outside a b = swap (ap₂ (eu G) (sym (outside-outside a)) (sym (outside-outside b)) ∙ eu-outside (outside a) (outside b))

-- ---- the test

-- Where M is N from outside, it is so over operands that are one another's negation wherever the variables stand.
module _ (M N : Stages → Stages) (across : (y : Stages) → M (outside y) ≡ outside (N y)) where
  negated : (a b : Env → Bool) → ((c : Env) → a c ≡ not (b c)) → (e : Env) (x : ℕ) (s : ℕ) → M (λ u. a (bind e x u)) s ≡ not (N (λ u. b (bind e x u)) s)
  negated a b h e x s = ap (λ y. M y s) (fun_ext (λ u. h (bind e x u))) ∙ ap (λ y. y s) (across (λ u. b (bind e x u)))

module _ (M N : Stages → Stages → Stages) (across : (y z : Stages) → M (outside y) (outside z) ≡ outside (N y z)) where
  negated₂ : (a b : Env → Bool) → ((c : Env) → a c ≡ not (b c)) → (c d : Env → Bool) → ((f : Env) → c f ≡ not (d f)) → (e : Env) (x y : ℕ) (s : ℕ)
      → M (λ u. a (bind e x u)) (λ u. c (bind e y u)) s ≡ not (N (λ u. b (bind e x u)) (λ u. d (bind e y u)) s)
  negated₂ a b h c d k e x y s =
      ap₂ (λ v w. M v w s) (fun_ext (λ u. h (bind e x u))) (fun_ext (λ u. k (bind e y u)))
      ∙ ap (λ v. v s) (across (λ u. b (bind e x u)) (λ u. d (bind e y u)))

-- The test of the dual is the negated test.
pub test-dual : (G : Graph) (f : Formula) (e : Env) → test G (dual f) e ≡ not (test G f e)
test-dual G truth e = refl
test-dual G falsity e = refl
test-dual G (is q) e = refl
test-dual G (is_not q) e = sym (not-not (atom G e q))
test-dual G (and a b) e = ap₂ (λ u v. u || v) (test-dual G a e) (test-dual G b e) ∙ sym (not-and (test G a e) (test G b e))
test-dual G (or a b) e = ap₂ (λ u v. u && v) (test-dual G a e) (test-dual G b e) ∙ sym (not-or (test G a e) (test G b e))
test-dual G (AX x a t) e = negated (some_next G) (each_next G) (not-each-next G) (test G (dual a)) (test G a) (test-dual G a) e x (value e t)
test-dual G (EX x a t) e = negated (each_next G) (some_next G) (not-some-next G) (test G (dual a)) (test G a) (test-dual G a) e x (value e t)
test-dual G (AF x a t) e = negated (eg G) (af G) (eg-outside G) (test G (dual a)) (test G a) (test-dual G a) e x (value e t)
test-dual G (EG x a t) e = negated (af G) (eg G) (af-outside G) (test G (dual a)) (test G a) (test-dual G a) e x (value e t)
test-dual G (AR x a y b t) e =
    negated₂ (eu G) (ar G) (eu-outside G) (test G (dual a)) (test G a) (test-dual G a) (test G (dual b)) (test G b) (test-dual G b) e x y (value e t)
test-dual G (EU x a y b t) e =
    negated₂ (ar G) (eu G) (ar-outside G) (test G (dual a)) (test G a) (test-dual G a) (test G (dual b)) (test G b) (test-dual G b) e x y (value e t)

-- ---- the meaning

module _ {G : Graph} (R : Readable G) (f : Formula) (e : Env) (b : Below G.stages f) (d : Stand G.stages e) where
  -- The dual's test says that the dual holds.
  dual-test : T (not (test G f e)) ↔ Holds G (dual f) e
  dual-test = rw (← test-dual G f e) (test-holds R (dual f) e (dual-below G.stages f b) d)

  -- The dual holds exactly when the formula does not.
  pub dual-holds : Holds G (dual f) e ↔ (Holds G f e → ⊥)
  dual-holds = Iff.trans (Iff.symm dual-test) (Iff.trans (T_not (test G f e)) (Iff.not (test-holds R f e b d)))

  -- The formula holds or its dual does.
  pub holds-or-dual : Holds G f e ⊎ Holds G (dual f) e
  holds-or-dual = ⊎_elim (λ u. inl ((test-holds R f e b d).0 u)) (λ u. inr (dual-test.0 u)) (decide (test G f e))
