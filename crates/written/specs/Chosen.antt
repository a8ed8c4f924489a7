-- Document 01, "The certificate we write", in terms of what formulas mean: which rule its words name, clause by clause, and what it is for every rule of a
-- derivation to be the one that is named. Nothing here computes and nothing is about bytes: a derivation is one of the crate `logic`, the meaning is
-- that over paths, and the bytes of a derivation are `encode` of the crate `rules`. What is lowest and what is nearest is said in `Ways`.
--
--     Is, If, Takes     a rule is this one; one thing is asked where a statement holds, else another; a rule takes a stage
--     Chosen            the clauses: the rule for a formula of a kind, at a stage of its walk
--     Ours              every rule of a derivation is the chosen one
--
-- `proofs/` shows that each formula that holds has a derivation that is ours, and that all such have the same bytes.
use Rattle.std.specs.Prelude.{ℕ, ◌≡◌, Bool, true, ◌⊎◌}
use Rattle.std.proofs.Common.{inl, inr}
use Rattle.model.specs.Graph.{Graph, Next}
use Rattle.model.specs.Formula.{Formula, truth, falsity, is, is_not, and, or, AX, EX, AF, EG, AR, EU, Env, bind, value, atom}
use Rattle.logic.specs.Meaning.{OnSomeAlways, Holds}
use Rattle.logic.specs.Rules.{Walk, empty, On, One, Each, stop_one, go_one, stop_each, go_each, Derived}
use Rattle.rules.specs.Kind.{Kind}
use Rattle.rules.specs.Steps.{ByKind}
use Rattle.rules.specs.declared.Rule.{Rule}
use Rattle.written.specs.Ways.{Lowest, Nearest}

-- A rule is q.
abbrev pub Is : Rule → Rule → Type 0
Is q r = r ≡ q

-- If P holds one thing is asked of a rule, else another.
abbrev pub If : Type 0 → (Rule → Type 0) → (Rule → Type 0) → Rule → Type 0
If P this that r = (P × this r) ⊎ ((P → ⊥) × that r)

-- A rule takes a stage of which P is asked.
abbrev pub Takes : (ℕ → Rule) → (ℕ → Type 0) → Rule → Type 0
Takes rule P r = (c : ℕ) × (r ≡ rule c) × P c

-- What is said of the one or of the other, whichever there is.
abbrev pub Either : {D F : Type 0} → (D → Type 0) → (F → Type 0) → D ⊎ F → Type 0
Either P Q (inl d) = P d
Either P Q (inr d) = Q d

-- An entry that a formula does not have holds nowhere, and nothing derives it.
abbrev pub nowhere : ℕ → Type 0
nowhere s = ⊥

abbrev pub no_ours : (s : ℕ) → ⊥ → Type 0
no_ours s d = ⊥

module _ (G : Graph) where
  -- The rule for a formula of a kind that holds, at the stage s of its walk w: A and B say where its a and its b hold.
  --     Or: left if it holds.
  --     EX: the lowest successor at which a holds.
  --     AF: now if a holds.
  --     EG: merge if on the walk, else the lowest successor at which EG holds.
  --     AR: merge if on the walk, else release if a holds.
  --     EU: now if b holds, else the successor fewest steps from a "now" along stages with a, the lowest of equals.
  -- For the other kinds there is one rule, and for false there is none.
  abbrev pub Chosen : Kind → (ℕ → Type 0) → (ℕ → Type 0) → Walk → ℕ → Rule → Type 0
  Chosen Kind.True A B w s = Is Rule.True
  Chosen Kind.False A B w s = λ r. ⊥
  Chosen Kind.Is A B w s = Is Rule.Holds
  Chosen Kind.IsNot A B w s = Is Rule.HoldsNot
  Chosen Kind.And A B w s = Is Rule.And
  Chosen Kind.Or A B w s = If (A s) (Is Rule.OrLeft) (Is Rule.OrRight)
  Chosen Kind.AX A B w s = Is Rule.Ax
  Chosen Kind.EX A B w s = Takes Rule.Ex (Lowest (λ t. Next G s t × A t))
  Chosen Kind.AF A B w s = If (A s) (Is Rule.AfNow) (Is Rule.AfLater)
  Chosen Kind.EG A B w s = If (On w s) (Is Rule.EgMerge) (Takes Rule.EgOn (Lowest (λ t. Next G s t × OnSomeAlways G A t)))
  Chosen Kind.AR A B w s = If (On w s) (Is Rule.ArMerge) (If (A s) (Is Rule.ArRelease) (Is Rule.ArOn))
  Chosen Kind.EU A B w s = If (B s) (Is Rule.EuNow) (Takes Rule.EuLater (λ c. (k : ℕ) × Nearest G A B s k c))

  -- Of all the steps of a walk that goes on at one successor, and of one that goes on at each: `stop` is said of a stop, `on` of a step that goes on.
  abbrev pub AllOne : {Stop : Walk → ℕ → Type 0} {Here : ℕ → Type 0} → ((w : Walk) (s : ℕ) → Stop w s → Type 0)
      → ((w : Walk) (s c : ℕ) → Here s → Type 0) → {w : Walk} {s : ℕ} → One G Stop Here w s → Type 0
  AllOne stop on (stop_one {w} {s} k) = stop w s k
  AllOne stop on (go_one {w} {s} o c n h k) = on w s c h × AllOne stop on k

  abbrev pub AllEach : {Stop : Walk → ℕ → Type 0} {Here : ℕ → Type 0} → ((w : Walk) (s : ℕ) → Stop w s → Type 0)
      → ((w : Walk) (s : ℕ) → Here s → Type 0) → {w : Walk} {s : ℕ} → Each G Stop Here w s → Type 0
  AllEach stop on (stop_each {w} {s} k) = stop w s k
  AllEach stop on (go_each {w} {s} o h k) = on w s h × ((t : ℕ) (n : Next G s t) → AllEach stop on (k t n))

  -- Of a derivation of a kind, where A and B say where a and b hold, and `a` and `b` say of what derives these that its rules are chosen.
  abbrev pub OursBy : (K : Kind) (p : Bool) (A B : ℕ → Type 0) {D F : ℕ → Type 0} → ((s : ℕ) → D s → Type 0) → ((s : ℕ) → F s → Type 0)
      → (w : Walk) (s : ℕ) → ByKind G K p D F w s → Type 0
  OursBy Kind.True p A B a b w s d = Chosen Kind.True A B w s Rule.True
  OursBy Kind.False p A B a b w s d = ⊥
  OursBy Kind.Is p A B a b w s d = Chosen Kind.Is A B w s Rule.Holds
  OursBy Kind.IsNot p A B a b w s d = Chosen Kind.IsNot A B w s Rule.HoldsNot
  OursBy Kind.And p A B a b w s d = Chosen Kind.And A B w s Rule.And × a s d.0 × b s d.1
  OursBy Kind.Or p A B a b w s d =
      Either (λ u. Chosen Kind.Or A B w s Rule.OrLeft × a s u) (λ u. Chosen Kind.Or A B w s Rule.OrRight × b s u) d
  OursBy Kind.AX p A B a b w s d = Chosen Kind.AX A B w s Rule.Ax × ((t : ℕ) (n : Next G s t) → a t (d t n))
  OursBy Kind.EX p A B a b w s d = Chosen Kind.EX A B w s (Rule.Ex d.0) × a d.0 d.2
  OursBy Kind.AF p A B a b w s d =
      AllEach (λ v u k. Chosen Kind.AF A B v u Rule.AfNow × a u k.1) (λ v u h. Chosen Kind.AF A B v u Rule.AfLater) d
  OursBy Kind.EG p A B a b w s d =
      AllOne (λ v u k. Chosen Kind.EG A B v u Rule.EgMerge) (λ v u c h. Chosen Kind.EG A B v u (Rule.EgOn c) × a u h) d
  OursBy Kind.AR p A B a b w s d =
      AllEach
      (λ v u k. Either (λ r. Chosen Kind.AR A B v u Rule.ArRelease × a u r.1 × b u r.2) (λ o. Chosen Kind.AR A B v u Rule.ArMerge) k)
      (λ v u h. Chosen Kind.AR A B v u Rule.ArOn × b u h) d
  OursBy Kind.EU p A B a b w s d =
      AllOne (λ v u k. Chosen Kind.EU A B v u Rule.EuNow × b u k.1) (λ v u c h. Chosen Kind.EU A B v u (Rule.EuLater c) × a u h) d

  -- Every rule of a derivation is the chosen one.
  abbrev pub Ours : (f : Formula) (e : Env) → Derived G f e → Type 0
  Ours truth e d = OursBy Kind.True true nowhere nowhere no_ours no_ours empty 0 d
  Ours falsity e d = OursBy Kind.False true nowhere nowhere no_ours no_ours empty 0 d
  Ours (is q) e d = OursBy Kind.Is (atom G e q) nowhere nowhere no_ours no_ours empty 0 d
  Ours (is_not q) e d = OursBy Kind.IsNot (atom G e q) nowhere nowhere no_ours no_ours empty 0 d
  Ours (and f g) e d = OursBy Kind.And true (λ s. Holds G f e) (λ s. Holds G g e) (λ s. Ours f e) (λ s. Ours g e) empty 0 d
  Ours (or f g) e d = OursBy Kind.Or true (λ s. Holds G f e) (λ s. Holds G g e) (λ s. Ours f e) (λ s. Ours g e) empty 0 d
  Ours (AX x f t) e d = OursBy Kind.AX true (λ s. Holds G f (bind e x s)) nowhere (λ s. Ours f (bind e x s)) no_ours empty (value e t) d
  Ours (EX x f t) e d = OursBy Kind.EX true (λ s. Holds G f (bind e x s)) nowhere (λ s. Ours f (bind e x s)) no_ours empty (value e t) d
  Ours (AF x f t) e d = OursBy Kind.AF true (λ s. Holds G f (bind e x s)) nowhere (λ s. Ours f (bind e x s)) no_ours empty (value e t) d
  Ours (EG x f t) e d = OursBy Kind.EG true (λ s. Holds G f (bind e x s)) nowhere (λ s. Ours f (bind e x s)) no_ours empty (value e t) d
  Ours (AR x f y g t) e d =
      OursBy Kind.AR true (λ s. Holds G f (bind e x s)) (λ s. Holds G g (bind e y s)) (λ s. Ours f (bind e x s)) (λ s. Ours g (bind e y s))
      empty (value e t) d
  Ours (EU x f y g t) e d =
      OursBy Kind.EU true (λ s. Holds G f (bind e x s)) (λ s. Holds G g (bind e y s)) (λ s. Ours f (bind e x s)) (λ s. Ours g (bind e y s))
      empty (value e t) d
