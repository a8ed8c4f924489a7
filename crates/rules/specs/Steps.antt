-- Document 01, "The steps of a proof": the bytes of a derivation. A step is its rule's code, the chosen stage where there is one, and the steps of
-- the premises in the table's order, successors ascending.
use Rattle.std.specs.Prelude.{ℕ, zero, suc, Bool, true, false, not, ◌⊎◌, List, [], ◌++◌, T}
use Rattle.std.proofs.Common.{⊎_elim}
use Rattle.model.specs.Graph.{Graph, Next}
use Rattle.model.specs.Formula.{Formula, truth, falsity, is, is_not, and, or, AX, EX, AF, EG, AR, EU, Env, bind, value, atom}
use Rattle.logic.specs.Rules.{Walk, empty, One, Each, stop_one, go_one, stop_each, go_each, AFwalk, EGwalk, ARwalk, EUwalk, Derived}
use Rattle.rules.specs.Kind.{Kind}
use Rattle.rules.specs.Table.{begin}
use Rattle.rules.specs.declared.Rule.{Rule}

-- The steps at a stage that is a successor; none where it is not.
abbrev pub if_next : (b : Bool) → (T b → List ℕ) → List ℕ
if_next true f = f tt
if_next false f = []

-- The steps at each successor below n, ascending.
abbrev pub ascending : ℕ → (next : ℕ → Bool) → ((t : ℕ) → T (next t) → List ℕ) → List ℕ
ascending zero next f = []
ascending (suc t) next f = ascending t next f ++ if_next (next t) (f t)

-- Nothing derives an entry that a formula does not have, so there are no steps of it.
abbrev pub no_steps : (s : ℕ) → ⊥ → List ℕ
no_steps s d = []

module _ (G : Graph) where
  -- The steps at each successor of s.
  abbrev pub at_each : (s : ℕ) → ((t : ℕ) → Next G s t → List ℕ) → List ℕ
  at_each s f = ascending G.stages (G.next s) f

  -- The steps of a walk that goes on at one successor, and of one that goes on at each: `stop` are the steps of a stop, `on` is the rule that
  -- goes on, and `here` are the steps of what going on asks here.
  abbrev pub one_steps : {Stop : Walk → ℕ → Type 0} {Here : ℕ → Type 0} → ((w : Walk) (s : ℕ) → Stop w s → List ℕ) → (ℕ → Rule)
      → ((s : ℕ) → Here s → List ℕ) → {w : Walk} {s : ℕ} → One G Stop Here w s → List ℕ
  one_steps stop on here (stop_one {w} {s} k) = stop w s k
  one_steps stop on here (go_one {w} {s} o c n h k) = begin (on c) ++ here s h ++ one_steps stop on here k

  abbrev pub each_steps : {Stop : Walk → ℕ → Type 0} {Here : ℕ → Type 0} → ((w : Walk) (s : ℕ) → Stop w s → List ℕ) → Rule
      → ((s : ℕ) → Here s → List ℕ) → {w : Walk} {s : ℕ} → Each G Stop Here w s → List ℕ
  each_steps stop on here (stop_each {w} {s} k) = stop w s k
  each_steps stop on here (go_each {w} {s} o h k) = begin on ++ here s h ++ at_each s (λ t n. each_steps stop on here (k t n))

  -- What derives a formula of a kind at a stage of its walk: p says whether its atom is true, A and B what derives its a and its b at a stage.
  -- What `Derived` says of a formula is this, at the start of its walk: otherwise `encode` would have no type.
  abbrev pub ByKind : Kind → Bool → (ℕ → Type 0) → (ℕ → Type 0) → Walk → ℕ → Type 0
  ByKind Kind.True p A B w s = Unit {0}
  ByKind Kind.False p A B w s = ⊥
  ByKind Kind.Is p A B w s = T p
  ByKind Kind.IsNot p A B w s = T (not p)
  ByKind Kind.And p A B w s = A s × B s
  ByKind Kind.Or p A B w s = A s ⊎ B s
  ByKind Kind.AX p A B w s = (t : ℕ) → Next G s t → A t
  ByKind Kind.EX p A B w s = (c : ℕ) × Next G s c × A c
  ByKind Kind.AF p A B w s = AFwalk G A w s
  ByKind Kind.EG p A B w s = EGwalk G A w s
  ByKind Kind.AR p A B w s = ARwalk G A B w s
  ByKind Kind.EU p A B w s = EUwalk G A B w s

  -- Its steps, from those of a and b.
  abbrev pub steps_by : (K : Kind) (p : Bool) {A B : ℕ → Type 0} → ((s : ℕ) → A s → List ℕ) → ((s : ℕ) → B s → List ℕ)
      → (w : Walk) (s : ℕ) → ByKind K p A B w s → List ℕ
  steps_by Kind.True p a b w s d = begin Rule.True
  steps_by Kind.False p a b w s d = []
  steps_by Kind.Is p a b w s d = begin Rule.Holds
  steps_by Kind.IsNot p a b w s d = begin Rule.HoldsNot
  steps_by Kind.And p a b w s d = begin Rule.And ++ a s d.0 ++ b s d.1
  steps_by Kind.Or p a b w s d = ⊎_elim (λ u. begin Rule.OrLeft ++ a s u) (λ u. begin Rule.OrRight ++ b s u) d
  steps_by Kind.AX p a b w s d = begin Rule.Ax ++ at_each s (λ t n. a t (d t n))
  steps_by Kind.EX p a b w s d = begin (Rule.Ex d.0) ++ a d.0 d.2
  steps_by Kind.AF p a b w s d = each_steps (λ v u k. begin Rule.AfNow ++ a u k.1) Rule.AfLater (λ u h. []) d
  steps_by Kind.EG p a b w s d = one_steps (λ v u k. begin Rule.EgMerge) Rule.EgOn a d
  steps_by Kind.AR p a b w s d =
      each_steps (λ v u k. ⊎_elim (λ r. begin Rule.ArRelease ++ a u r.1 ++ b u r.2) (λ o. begin Rule.ArMerge) k) Rule.ArOn b d
  steps_by Kind.EU p a b w s d = one_steps (λ v u k. begin Rule.EuNow ++ b u k.1) Rule.EuLater a d

  -- The steps of a derivation.
  abbrev pub encode : (f : Formula) (e : Env) → Derived G f e → List ℕ
  encode truth e d = steps_by Kind.True true no_steps no_steps empty 0 d
  encode falsity e d = steps_by Kind.False true no_steps no_steps empty 0 d
  encode (is q) e d = steps_by Kind.Is (atom G e q) no_steps no_steps empty 0 d
  encode (is_not q) e d = steps_by Kind.IsNot (atom G e q) no_steps no_steps empty 0 d
  encode (and f g) e d = steps_by Kind.And true (λ s. encode f e) (λ s. encode g e) empty 0 d
  encode (or f g) e d = steps_by Kind.Or true (λ s. encode f e) (λ s. encode g e) empty 0 d
  encode (AX x f t) e d = steps_by Kind.AX true (λ s. encode f (bind e x s)) no_steps empty (value e t) d
  encode (EX x f t) e d = steps_by Kind.EX true (λ s. encode f (bind e x s)) no_steps empty (value e t) d
  encode (AF x f t) e d = steps_by Kind.AF true (λ s. encode f (bind e x s)) no_steps empty (value e t) d
  encode (EG x f t) e d = steps_by Kind.EG true (λ s. encode f (bind e x s)) no_steps empty (value e t) d
  encode (AR x f y g t) e d = steps_by Kind.AR true (λ s. encode f (bind e x s)) (λ s. encode g (bind e y s)) empty (value e t) d
  encode (EU x f y g t) e d = steps_by Kind.EU true (λ s. encode f (bind e x s)) (λ s. encode g (bind e y s)) empty (value e t) d
