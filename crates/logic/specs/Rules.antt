-- Document 01, "The steps of a proof": the derivations that its seventeen rules give, over a graph, a formula, the stages of the variables and
-- the walk. Nothing here is about bytes. A derivation holds its premises in the order of the document's table; what the table calls a chosen
-- successor c is a number in the derivation, and a premise "at each successor" is a function of the successor.
use Rattle.std.specs.Prelude.{ℕ, Bool, false, not, ◌||◌, ◌⊎◌, T, eqb}
use Rattle.model.specs.Graph.{Graph, Next}
use Rattle.model.specs.Formula.{Formula, truth, falsity, is, is_not, and, or, AX, EX, AF, EG, AR, EU, Env, bind, value, atom}

-- The walk is the set of stages already stood on by this AF, EG, AR or EU on the way down, here as a test.
abbrev pub Walk : Type 0
Walk = ℕ → Bool

-- It starts empty at each such formula, inner ones included.
abbrev pub empty : Walk
empty = λ t. false

-- the walk with s added
abbrev pub also : Walk → ℕ → Walk
also w s = λ t. eqb t s || w t

-- whether s is on the walk
abbrev pub on : Walk → ℕ → Bool
on w s = w s

abbrev pub On : Walk → ℕ → Type 0
On w s = T (on w s)

abbrev pub Off : Walk → ℕ → Type 0
Off w s = T (not (on w s))

-- The ways to stop at a stage. To merge is the one rule that asks for a stage on the walk.
--     now (8, 15)    off the walk, and a here
--     release (12)   off the walk, and a here, and b here
--     merge (11, 14) on the walk
abbrev pub Now : (ℕ → Type 0) → Walk → ℕ → Type 0
Now A w s = Off w s × A s

abbrev pub Release : (ℕ → Type 0) → (ℕ → Type 0) → Walk → ℕ → Type 0
Release A B w s = Off w s × A s × B s

abbrev pub Merge : Walk → ℕ → Type 0
Merge w s = On w s

abbrev pub ReleaseOrMerge : (ℕ → Type 0) → (ℕ → Type 0) → Walk → ℕ → Type 0
ReleaseOrMerge A B w s = Release A B w s ⊎ Merge w s

-- what going on asks of a stage where it asks nothing
abbrev pub Nothing : ℕ → Type 0
Nothing s = Unit {0}

module _ (G : Graph) where
  -- A walk that goes on at one chosen successor: EG and EU. It stops, or the stage is not on the walk, here is what going on asks, and the
  -- walk, with the stage added, goes on at a successor c.
  pub data One (Stop : Walk → ℕ → Type 0) (Here : ℕ → Type 0) : Walk → ℕ → Type 0 where
    stop_one : {w : Walk} {s : ℕ} → Stop w s → One Stop Here w s
    go_one : {w : Walk} {s : ℕ} → Off w s → (c : ℕ) → Next G s c → Here s → One Stop Here (also w s) c → One Stop Here w s

  -- A walk that goes on at every successor: AF and AR.
  pub data Each (Stop : Walk → ℕ → Type 0) (Here : ℕ → Type 0) : Walk → ℕ → Type 0 where
    stop_each : {w : Walk} {s : ℕ} → Stop w s → Each Stop Here w s
    go_each : {w : Walk} {s : ℕ} → Off w s → Here s → ((t : ℕ) → Next G s t → Each Stop Here (also w s) t) → Each Stop Here w s

  -- The four walks, over what is derived at a stage.
  -- 8 AF now: a here. 9 AF later: AF at each successor.
  abbrev pub AFwalk : (ℕ → Type 0) → Walk → ℕ → Type 0
  AFwalk A = Each (Now A) Nothing

  -- 10 c EG: a here, EG at c. 11 EG merge.
  abbrev pub EGwalk : (ℕ → Type 0) → Walk → ℕ → Type 0
  EGwalk A = One Merge A

  -- 12 AR release: a here, b here. 13 AR on: b here, AR at each successor. 14 AR merge.
  abbrev pub ARwalk : (ℕ → Type 0) → (ℕ → Type 0) → Walk → ℕ → Type 0
  ARwalk A B = Each (ReleaseOrMerge A B) B

  -- 15 EU now: b here. 16 c EU later: a here, EU at c.
  abbrev pub EUwalk : (ℕ → Type 0) → (ℕ → Type 0) → Walk → ℕ → Type 0
  EUwalk A B = One (Now B) A

  -- A derivation of a formula where the variables stand as e has them. In order: 0 true; for false no rule; 1 P holds; 2 not P holds; 3 and;
  -- 4 or, left, 5 or, right; 6 AX: a at each successor; 7 c EX: a at c; and the four walks. The term is read outside the binding.
  abbrev pub Derived : Formula → Env → Type 0
  Derived truth e = Unit {0}
  Derived falsity e = ⊥
  Derived (is q) e = T (atom G e q)
  Derived (is_not q) e = T (not (atom G e q))
  Derived (and a b) e = Derived a e × Derived b e
  Derived (or a b) e = Derived a e ⊎ Derived b e
  Derived (AX x a t) e = (s : ℕ) → Next G (value e t) s → Derived a (bind e x s)
  Derived (EX x a t) e = (c : ℕ) × Next G (value e t) c × Derived a (bind e x c)
  Derived (AF x a t) e = AFwalk (λ s. Derived a (bind e x s)) empty (value e t)
  Derived (EG x a t) e = EGwalk (λ s. Derived a (bind e x s)) empty (value e t)
  Derived (AR x a y b t) e = ARwalk (λ s. Derived a (bind e x s)) (λ s. Derived b (bind e y s)) empty (value e t)
  Derived (EU x a y b t) e = EUwalk (λ s. Derived a (bind e x s)) (λ s. Derived b (bind e y s)) empty (value e t)
