-- The clauses of "The certificate we write" leave nothing open: of a formula at a stage of its walk one rule is chosen, so all derivations that are ours
-- have the same bytes.
--
--     chosen-once      one rule is chosen
--     ours-by-once     derivations of a kind that are ours have the same steps, where those of its a and of its b do
--     ours-once        derivations of a formula that are ours have the same steps
use Prim.Native.Nat.{ℕ, zero, suc}
use mathlib.Core.Path.{◌≡◌, refl, sym, ap, ap₂, ◌∙◌, subst}
use mathlib.Core.Bool.{Bool, true, false, not}
use mathlib.Core.Logic.{◌⊎◌, inl, inr, ⊎_elim}
use mathlib.Core.List.{List, [], ◌++◌}
use lib.Dec.{T, eqb}
use Rattle.model.specs.Graph.{Graph}
use Rattle.model.specs.Formula.{Formula, truth, falsity, is, is_not, and, or, AX, EX, AF, EG, AR, EU, Env, bind, value}
use Rattle.logic.specs.Meaning.{Holds}
use Rattle.logic.specs.Rules.{Walk, empty, also, On, Off, One, Each, stop_one, go_one, stop_each, go_each, Derived}
use Rattle.logic.proofs.Booleans.{differ}
use Rattle.rules.specs.Kind.{Kind}
use Rattle.rules.specs.Table.{row, begin}
use Rattle.rules.specs.Steps.{no_steps, if_next, ascending, one_steps, each_steps, ByKind, steps_by, encode}
use Rattle.rules.specs.declared.Rule.{Rule}
use Rattle.written.specs.Chosen.{Is, If, Takes, Chosen, Either, AllOne, AllEach, OursBy, Ours, nowhere, no_ours}
use Rattle.written.proofs.WayLaws.{one-lowest, one-nearest}

-- ---- one rule

-- What is asked of a rule is met by one rule at most.
abbrev Once : (Rule → Type 0) → Type 0
Once P = (r q : Rule) → P r → P q → r ≡ q

is-once : (q : Rule) → Once (Is q)
is-once q r s e f = e ∙ sym f

if-once : {P : Type 0} {this that : Rule → Type 0} → Once this → Once that → Once (If P this that)
if-once x y r q (inl u) (inl v) = x r q u.1 v.1
if-once x y r q (inl u) (inr v) = absurd (v.0 u.0)
if-once x y r q (inr u) (inl v) = absurd (u.0 v.0)
if-once x y r q (inr u) (inr v) = y r q u.1 v.1

takes-once : (rule : ℕ → Rule) {P : ℕ → Type 0} → ((c d : ℕ) → P c → P d → c ≡ d) → Once (Takes rule P)
takes-once rule same r q u v = u.1 ∙ ap rule (same u.0 v.0 u.2 v.2) ∙ sym v.1

-- One rule is chosen.
pub chosen-once : (G : Graph) (K : Kind) (A B : ℕ → Type 0) (w : Walk) (s : ℕ) → Once (Chosen G K A B w s)
chosen-once G Kind.True A B w s = is-once Rule.True
chosen-once G Kind.False A B w s = λ r q u v. absurd u
chosen-once G Kind.Is A B w s = is-once Rule.Holds
chosen-once G Kind.IsNot A B w s = is-once Rule.HoldsNot
chosen-once G Kind.And A B w s = is-once Rule.And
chosen-once G Kind.Or A B w s = if-once (is-once Rule.OrLeft) (is-once Rule.OrRight)
chosen-once G Kind.AX A B w s = is-once Rule.Ax
chosen-once G Kind.EX A B w s = takes-once Rule.Ex (λ c d u v. one-lowest u v)
chosen-once G Kind.AF A B w s = if-once (is-once Rule.AfNow) (is-once Rule.AfLater)
chosen-once G Kind.EG A B w s = if-once (is-once Rule.EgMerge) (takes-once Rule.EgOn (λ c d u v. one-lowest u v))
chosen-once G Kind.AR A B w s = if-once (is-once Rule.ArMerge) (if-once (is-once Rule.ArRelease) (is-once Rule.ArOn))
chosen-once G Kind.EU A B w s = if-once (is-once Rule.EuNow) (takes-once Rule.EuLater (λ c d u v. (one-nearest u.1 v.1).1))

-- Two rules with different codes are not chosen at one stage.
never : {P : Rule → Type 0} → Once P → (r q : Rule) → T (not (eqb (row r).code (row q).code)) → P r → P q → ⊥
never once r q apart u v = differ (row r).code (row q).code apart (ap (λ (k : Rule). (row k).code) (once r q u v))

-- ---- the steps of a walk

-- The steps at each successor are the same where they are at each.
ascending-same : (n : ℕ) (next : ℕ → Bool) (f g : (t : ℕ) → T (next t) → List ℕ) → ((t : ℕ) (u : T (next t)) → f t u ≡ g t u)
    → ascending n next f ≡ ascending n next g
ascending-same zero next f g same = refl
ascending-same (suc n) next f g same = ap₂ ◌++◌ (ascending-same n next f g same) (at (next n) (f n) (g n) (same n))
  where
    at : (b : Bool) (f g : T b → List ℕ) → ((u : T b) → f u ≡ g u) → if_next b f ≡ if_next b g
    at true f g same = same tt
    at false f g same = refl

-- A walk that goes on at one successor: what is said of all its steps (`stop`, `go`) lets it stop in one way, or go on in one way, and never both.
module _ (G : Graph) {Stop : Walk → ℕ → Type 0} {Here : ℕ → Type 0} (x : (w : Walk) (s : ℕ) → Stop w s → List ℕ) (rule : ℕ → Rule)
    (y : (s : ℕ) → Here s → List ℕ) (stop : (w : Walk) (s : ℕ) → Stop w s → Type 0) (go : (w : Walk) (s c : ℕ) → Here s → Type 0)
    (stops : (w : Walk) (s : ℕ) (k k' : Stop w s) → stop w s k → stop w s k' → x w s k ≡ x w s k')
    (apart : (w : Walk) (s : ℕ) (k : Stop w s) (c : ℕ) (h : Here s) → stop w s k → go w s c h → ⊥)
    (goes : (w : Walk) (s c c' : ℕ) (h h' : Here s) → go w s c h → go w s c' h' → (c ≡ c') × (y s h ≡ y s h')) where
  one-once : {w : Walk} {s : ℕ} (d d' : One G Stop Here w s) → AllOne G stop go d → AllOne G stop go d' → one_steps G x rule y d ≡ one_steps G x rule y d'
  one-once (stop_one {w} {s} k) (stop_one k') u v = stops w s k k' u v
  one-once (stop_one {w} {s} k) (go_one o c n h d) u v = absurd (apart w s k c h u v.0)
  one-once (go_one {w} {s} o c n h d) (stop_one k) u v = absurd (apart w s k c h v u.0)
  one-once (go_one {w} {s} o c n h d) (go_one o' c' n' h' d') u v =
      let same = goes w s c c' h h' u.0 v.0 in
      let rest : one_steps G x rule y d ≡ one_steps G x rule y d' =
      subst (λ (t : ℕ). (d' : One G Stop Here (also w s) t) → AllOne G stop go d' → one_steps G x rule y d ≡ one_steps G x rule y d') same.0
      (λ d' v. one-once d d' u.1 v) d' v.1 in
      λ i. begin (rule (same.0 i)) ++ same.1 i ++ rest i

-- The same of a walk that goes on at each successor.
module _ (G : Graph) {Stop : Walk → ℕ → Type 0} {Here : ℕ → Type 0} (x : (w : Walk) (s : ℕ) → Stop w s → List ℕ) (rule : Rule)
    (y : (s : ℕ) → Here s → List ℕ) (stop : (w : Walk) (s : ℕ) → Stop w s → Type 0) (go : (w : Walk) (s : ℕ) → Here s → Type 0)
    (stops : (w : Walk) (s : ℕ) (k k' : Stop w s) → stop w s k → stop w s k' → x w s k ≡ x w s k')
    (apart : (w : Walk) (s : ℕ) (k : Stop w s) (h : Here s) → stop w s k → go w s h → ⊥)
    (goes : (w : Walk) (s : ℕ) (h h' : Here s) → go w s h → go w s h' → y s h ≡ y s h') where
  each-once : {w : Walk} {s : ℕ} (d d' : Each G Stop Here w s) → AllEach G stop go d → AllEach G stop go d'
      → each_steps G x rule y d ≡ each_steps G x rule y d'
  each-once (stop_each {w} {s} k) (stop_each k') u v = stops w s k k' u v
  each-once (stop_each {w} {s} k) (go_each o h d) u v = absurd (apart w s k h u v.0)
  each-once (go_each {w} {s} o h d) (stop_each k) u v = absurd (apart w s k h v u.0)
  each-once (go_each {w} {s} o h d) (go_each o' h' d') u v =
      ap₂ (λ (l m : List ℕ). begin rule ++ l ++ m) (goes w s h h' u.0 v.0)
      (ascending-same G.stages (G.next s) _ _ (λ t n. each-once (d t n) (d' t n) (u.1 t n) (v.1 t n)))

-- ---- one certificate

-- Derivations of which `ours` is said have the same steps.
abbrev Same : {D : ℕ → Type 0} → ((s : ℕ) → D s → Type 0) → ((s : ℕ) → D s → List ℕ) → Type 0
Same {D} ours steps = (s : ℕ) (d d' : D s) → ours s d → ours s d' → steps s d ≡ steps s d'

module _ (G : Graph) (p : Bool) (A B : ℕ → Type 0) {D F : ℕ → Type 0} (a : (s : ℕ) → D s → Type 0) (b : (s : ℕ) → F s → Type 0)
    (x : (s : ℕ) → D s → List ℕ) (y : (s : ℕ) → F s → List ℕ) (a-same : Same a x) (b-same : Same b y) where
  or_once : (w : Walk) (s : ℕ) (d d' : D s ⊎ F s) → OursBy G Kind.Or p A B a b w s d → OursBy G Kind.Or p A B a b w s d'
      → steps_by G Kind.Or p x y w s d ≡ steps_by G Kind.Or p x y w s d'
  or_once w s (inl d) (inl d') u v = ap (λ (l : List ℕ). begin Rule.OrLeft ++ l) (a-same s d d' u.1 v.1)
  or_once w s (inl d) (inr d') u v = absurd (never (chosen-once G Kind.Or A B w s) Rule.OrLeft Rule.OrRight tt u.0 v.0)
  or_once w s (inr d) (inl d') u v = absurd (never (chosen-once G Kind.Or A B w s) Rule.OrRight Rule.OrLeft tt u.0 v.0)
  or_once w s (inr d) (inr d') u v = ap (λ (l : List ℕ). begin Rule.OrRight ++ l) (b-same s d d' u.1 v.1)

  ex-once : (w : Walk) (s : ℕ) (d d' : ByKind G Kind.EX p D F w s) → OursBy G Kind.EX p A B a b w s d → OursBy G Kind.EX p A B a b w s d'
      → steps_by G Kind.EX p x y w s d ≡ steps_by G Kind.EX p x y w s d'
  ex-once w s d d' u v =
      let e = chosen-once G Kind.EX A B w s (Rule.Ex d.0) (Rule.Ex d'.0) u.0 v.0 in
      let c : d.0 ≡ d'.0 = cc in
      let rest : x d.0 d.2 ≡ x d'.0 d'.2 =
      subst (λ (t : ℕ). (k : D t) → a t k → x d.0 d.2 ≡ x t k) c (λ k o. a-same d.0 d.2 k u.1 o) d'.2 v.1 in
      λ i. begin (Rule.Ex (c i)) ++ rest i

  -- What stops a walk of AR, two ways of which have one rule each.
  ar-stops : (w : Walk) (s : ℕ) (k k' : (Off w s × D s × F s) ⊎ On w s)
      → Either (λ r. Chosen G Kind.AR A B w s Rule.ArRelease × a s r.1 × b s r.2) (λ o. Chosen G Kind.AR A B w s Rule.ArMerge) k
      → Either (λ r. Chosen G Kind.AR A B w s Rule.ArRelease × a s r.1 × b s r.2) (λ o. Chosen G Kind.AR A B w s Rule.ArMerge) k'
      → ⊎_elim (λ r. begin Rule.ArRelease ++ x s r.1 ++ y s r.2) (λ o. begin Rule.ArMerge) k
      ≡ ⊎_elim (λ r. begin Rule.ArRelease ++ x s r.1 ++ y s r.2) (λ o. begin Rule.ArMerge) k'
  ar-stops w s (inl k) (inl k') u v =
      ap₂ (λ (l m : List ℕ). begin Rule.ArRelease ++ l ++ m) (a-same s k.1 k'.1 u.1 v.1) (b-same s k.2 k'.2 u.2 v.2)
  ar-stops w s (inl k) (inr o) u v = absurd (never (chosen-once G Kind.AR A B w s) Rule.ArRelease Rule.ArMerge tt u.0 v)
  ar-stops w s (inr o) (inl k) u v = absurd (never (chosen-once G Kind.AR A B w s) Rule.ArMerge Rule.ArRelease tt u v.0)
  ar-stops w s (inr o) (inr o') u v = refl

  ar-apart : (w : Walk) (s : ℕ) (k : (Off w s × D s × F s) ⊎ On w s)
      → Either (λ r. Chosen G Kind.AR A B w s Rule.ArRelease × a s r.1 × b s r.2) (λ o. Chosen G Kind.AR A B w s Rule.ArMerge) k
      → Chosen G Kind.AR A B w s Rule.ArOn → ⊥
  ar-apart w s (inl k) u v = never (chosen-once G Kind.AR A B w s) Rule.ArRelease Rule.ArOn tt u.0 v
  ar-apart w s (inr o) u v = never (chosen-once G Kind.AR A B w s) Rule.ArMerge Rule.ArOn tt u v

  -- The stage that is taken to go on is one.
  one-taken : (K : Kind) (rule : ℕ → Rule) → ((c d : ℕ) → rule c ≡ rule d → c ≡ d) → (w : Walk) (s c d : ℕ) → Chosen G K A B w s (rule c)
      → Chosen G K A B w s (rule d) → c ≡ d
  one-taken K rule told w s c d u v = told c d (chosen-once G K A B w s (rule c) (rule d) u v)

  pub ours-by-once : (K : Kind) (w : Walk) (s : ℕ) (d d' : ByKind G K p D F w s) → OursBy G K p A B a b w s d → OursBy G K p A B a b w s d'
      → steps_by G K p x y w s d ≡ steps_by G K p x y w s d'
  ours-by-once Kind.True w s d d' u v = refl
  ours-by-once Kind.False w s d d' u v = refl
  ours-by-once Kind.Is w s d d' u v = refl
  ours-by-once Kind.IsNot w s d d' u v = refl
  ours-by-once Kind.And w s d d' u v =
      ap₂ (λ (l m : List ℕ). begin Rule.And ++ l ++ m) (a-same s d.0 d'.0 u.1 v.1) (b-same s d.1 d'.1 u.2 v.2)
  ours-by-once Kind.Or w s d d' u v = or_once w s d d' u v
  ours-by-once Kind.AX w s d d' u v =
      ap (λ (l : List ℕ). begin Rule.Ax ++ l) (ascending-same G.stages (G.next s) _ _ (λ t n. a-same t (d t n) (d' t n) (u.1 t n) (v.1 t n)))
  ours-by-once Kind.EX w s d d' u v = ex-once w s d d' u v
  ours-by-once Kind.AF w s d d' u v =
      each-once G _ Rule.AfLater (λ t n. []) _ _
      (λ w s k k' m n. ap (λ (l : List ℕ). begin Rule.AfNow ++ l) (a-same s k.1 k'.1 m.1 n.1))
      (λ w s k h m n. never (chosen-once G Kind.AF A B w s) Rule.AfNow Rule.AfLater tt m.0 n) (λ w s h h' m n. refl) d d' u v
  ours-by-once Kind.EG w s d d' u v =
      one-once G _ Rule.EgOn x _ _ (λ w s k k' m n. refl)
      (λ w s k c h m n. never (chosen-once G Kind.EG A B w s) Rule.EgMerge (Rule.EgOn c) tt m n.0)
      (λ w s c c' h h' m n. (one-taken Kind.EG Rule.EgOn (λ c d e. cc) w s c c' m.0 n.0, a-same s h h' m.1 n.1)) d d' u v
  ours-by-once Kind.AR w s d d' u v =
      each-once G _ Rule.ArOn y _ _ ar-stops (λ w s k h m n. ar-apart w s k m n.0) (λ w s h h' m n. b-same s h h' m.1 n.1) d d' u v
  ours-by-once Kind.EU w s d d' u v =
      one-once G _ Rule.EuLater x _ _ (λ w s k k' m n. ap (λ (l : List ℕ). begin Rule.EuNow ++ l) (b-same s k.1 k'.1 m.1 n.1))
      (λ w s k c h m n. never (chosen-once G Kind.EU A B w s) Rule.EuNow (Rule.EuLater c) tt m.0 n.0)
      (λ w s c c' h h' m n. (one-taken Kind.EU Rule.EuLater (λ c d e. cc) w s c c' m.0 n.0, a-same s h h' m.1 n.1)) d d' u v

none-same : Same {D = nowhere} no_ours no_steps
none-same s d d' u v = absurd d

-- THE CERTIFICATE WE WRITE IS ONE: all derivations of a formula that are ours have the same steps.
pub ours-once : (G : Graph) (f : Formula) (e : Env) (d d' : Derived G f e) → Ours G f e d → Ours G f e d' → encode G f e d ≡ encode G f e d'
ours-once G truth = λ e d d' u v. refl
ours-once G falsity = λ e d d' u v. refl
ours-once G (is q) = λ e d d' u v. refl
ours-once G (is_not q) = λ e d d' u v. refl
ours-once G (and f g) =
    λ e. ours-by-once G true (λ s. Holds G f e) (λ s. Holds G g e) _ _ _ _ (λ s. ours-once G f e) (λ s. ours-once G g e) Kind.And empty 0
ours-once G (or f g) =
    λ e. ours-by-once G true (λ s. Holds G f e) (λ s. Holds G g e) _ _ _ _ (λ s. ours-once G f e) (λ s. ours-once G g e) Kind.Or empty 0
ours-once G (AX x f t) =
    λ e. ours-by-once G true (λ s. Holds G f (bind e x s)) nowhere _ no_ours _ _ (λ s. ours-once G f (bind e x s)) none-same Kind.AX empty (value e t)
ours-once G (EX x f t) =
    λ e. ours-by-once G true (λ s. Holds G f (bind e x s)) nowhere _ no_ours _ _ (λ s. ours-once G f (bind e x s)) none-same Kind.EX empty (value e t)
ours-once G (AF x f t) =
    λ e. ours-by-once G true (λ s. Holds G f (bind e x s)) nowhere _ no_ours _ _ (λ s. ours-once G f (bind e x s)) none-same Kind.AF empty (value e t)
ours-once G (EG x f t) =
    λ e. ours-by-once G true (λ s. Holds G f (bind e x s)) nowhere _ no_ours _ _ (λ s. ours-once G f (bind e x s)) none-same Kind.EG empty (value e t)
ours-once G (AR x f y g t) =
    λ e. ours-by-once G true (λ s. Holds G f (bind e x s)) (λ s. Holds G g (bind e y s)) _ _ _ _
    (λ s. ours-once G f (bind e x s)) (λ s. ours-once G g (bind e y s)) Kind.AR empty (value e t)
ours-once G (EU x f y g t) =
    λ e. ours-by-once G true (λ s. Holds G f (bind e x s)) (λ s. Holds G g (bind e y s)) _ _ _ _
    (λ s. ours-once G f (bind e x s)) (λ s. ours-once G g (bind e y s)) Kind.EU empty (value e t)
