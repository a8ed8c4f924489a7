-- Document 01, "Stored forms", the table of kinds, with the bytes taken away: formulas of CTL_P as trees, their dual, their free
-- variables and how deep their modalities nest. What a formula means is not here: that is the crate `logic`.
use Rattle.std.specs.Prelude.{ℕ, zero, suc, max, ◌<◌, ◌≡◌, Bool, true, false, ◌⊎◌, eqb}
use Rattle.model.specs.Graph.{Graph}

-- A term is a stage or one of the variables.
pub data Term : Type 0 where
  stage : ℕ → Term
  variable : ℕ → Term

-- A predicate of arity 1 at a term, or one of arity 2 at two.
pub data Atom : Type 0 where
  one : ℕ → Term → Atom
  two : ℕ → Term → Term → Atom

-- The twelve kinds, in document 01's order. A modality binds x in a (AR and EU also y in b), and starts at the stage of its term.
pub data Formula : Type 0 where
  truth : Formula
  falsity : Formula
  is : Atom → Formula
  is_not : Atom → Formula
  and : Formula → Formula → Formula
  or : Formula → Formula → Formula
  AX : (x : ℕ) → Formula → Term → Formula
  EX : (x : ℕ) → Formula → Term → Formula
  AF : (x : ℕ) → Formula → Term → Formula
  EG : (x : ℕ) → Formula → Term → Formula
  AR : (x : ℕ) → Formula → (y : ℕ) → Formula → Term → Formula
  EU : (x : ℕ) → Formula → (y : ℕ) → Formula → Term → Formula

-- The present stages of the variables, as one value.
abbrev pub Env : Type 0
Env = ℕ → ℕ

abbrev pub pick : Bool → ℕ → ℕ → ℕ
pick true s t = s
pick false s t = t

-- The variable x stands at s, and every other where it stood: a rebound variable hides the outer one.
abbrev pub bind : Env → ℕ → ℕ → Env
bind e x s = λ v. pick (eqb v x) s (e v)

-- The stage of a term.
abbrev pub value : Env → Term → ℕ
value e (stage s) = s
value e (variable v) = e v

-- Whether an atom is true in a graph.
abbrev pub atom : Graph → Env → Atom → Bool
atom G e (one q t) = G.one q (value e t)
atom G e (two q t u) = G.two q (value e t) (value e u)

-- The dual exchanges true and false, P and not P, and and or, AX and EX, AF and EG, AR and EU throughout; the variables are kept.
abbrev pub dual : Formula → Formula
dual truth = falsity
dual falsity = truth
dual (is q) = is_not q
dual (is_not q) = is q
dual (and a b) = or (dual a) (dual b)
dual (or a b) = and (dual a) (dual b)
dual (AX x a t) = EX x (dual a) t
dual (EX x a t) = AX x (dual a) t
dual (AF x a t) = EG x (dual a) t
dual (EG x a t) = AF x (dual a) t
dual (AR x a y b t) = EU x (dual a) y (dual b) t
dual (EU x a y b t) = AR x (dual a) y (dual b) t

-- v is the variable that a term names
abbrev pub Names : ℕ → Term → Type 0
Names v (stage s) = ⊥
Names v (variable w) = v ≡ w

abbrev pub FreeInAtom : ℕ → Atom → Type 0
FreeInAtom v (one q t) = Names v t
FreeInAtom v (two q t u) = Names v t ⊎ Names v u

-- v is free under a binding of x: it is another variable, and free in what is bound
abbrev pub Under : ℕ → ℕ → Type 0 → Type 0
Under v x A = (v ≡ x → ⊥) × A

-- The variable v is free in a formula. The term of a modality is read outside its binding; x of AR and EU is bound in a only, y in b only.
abbrev pub Free : ℕ → Formula → Type 0
Free v truth = ⊥
Free v falsity = ⊥
Free v (is q) = FreeInAtom v q
Free v (is_not q) = FreeInAtom v q
Free v (and a b) = Free v a ⊎ Free v b
Free v (or a b) = Free v a ⊎ Free v b
Free v (AX x a t) = Names v t ⊎ Under v x (Free v a)
Free v (EX x a t) = Names v t ⊎ Under v x (Free v a)
Free v (AF x a t) = Names v t ⊎ Under v x (Free v a)
Free v (EG x a t) = Names v t ⊎ Under v x (Free v a)
Free v (AR x a y b t) = Names v t ⊎ (Under v x (Free v a) ⊎ Under v y (Free v b))
Free v (EU x a y b t) = Names v t ⊎ (Under v x (Free v a) ⊎ Under v y (Free v b))

-- How many modalities nest along the deepest way down, the top one counted.
abbrev pub nesting : Formula → ℕ
nesting truth = zero
nesting falsity = zero
nesting (is q) = zero
nesting (is_not q) = zero
nesting (and a b) = max (nesting a) (nesting b)
nesting (or a b) = max (nesting a) (nesting b)
nesting (AX x a t) = suc (nesting a)
nesting (EX x a t) = suc (nesting a)
nesting (AF x a t) = suc (nesting a)
nesting (EG x a t) = suc (nesting a)
nesting (AR x a y b t) = suc (max (nesting a) (nesting b))
nesting (EU x a y b t) = suc (max (nesting a) (nesting b))

-- A term that is a stage is below n.
abbrev pub TermBelow : ℕ → Term → Type 0
TermBelow n (stage s) = s < n
TermBelow n (variable v) = Unit {0}

abbrev pub AtomBelow : ℕ → Atom → Type 0
AtomBelow n (one q t) = TermBelow n t
AtomBelow n (two q t u) = TermBelow n t × TermBelow n u

-- Every stage that a formula names is below n.
abbrev pub Below : ℕ → Formula → Type 0
Below n truth = Unit {0}
Below n falsity = Unit {0}
Below n (is q) = AtomBelow n q
Below n (is_not q) = AtomBelow n q
Below n (and a b) = Below n a × Below n b
Below n (or a b) = Below n a × Below n b
Below n (AX x a t) = TermBelow n t × Below n a
Below n (EX x a t) = TermBelow n t × Below n a
Below n (AF x a t) = TermBelow n t × Below n a
Below n (EG x a t) = TermBelow n t × Below n a
Below n (AR x a y b t) = TermBelow n t × Below n a × Below n b
Below n (EU x a y b t) = TermBelow n t × Below n a × Below n b
