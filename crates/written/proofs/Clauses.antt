-- Document 01, "The certificate we write", clause by clause, in terms of what a formula means: the rule that is taken (`ShapeLaws.taken`) is the one
-- that the document names. There is one lowest and one nearest (`WayLaws.one-lowest`, `one-nearest`), so that the clauses leave nothing open.
--
--     serves                         the rule is one for the formula's kind, so that where a kind has one rule it is that one
--     or_left, or_right              or: left if it holds
--     ex-lowest                      EX: the lowest successor at which a holds
--     af-now, af-later               AF: now if a holds
--     ar-merge, ar-release, ar-on    AR: merge if on the walk, else release if a holds
--     eg-merge, eg-lowest            EG: merge if on the walk, else the lowest successor at which EG holds
--     eu-now, eu-nearest             EU: now if b holds, else the successor fewest steps from a now along stages with a, the lowest of equals
use Prim.Native.Nat.{ℕ, ◌<◌}
use mathlib.Core.Path.{◌≡◌, refl, sym, ap}
use mathlib.Core.Bool.{Bool, true, false, not}
use mathlib.Core.Logic.Iff
use mathlib.Core.Logic.{◌↔◌}
use lib.Dec.{T, eqb}
use Rattle.model.specs.Graph.{Graph, Next, Readable}
use Rattle.model.specs.Formula.{Formula, or, EX, AF, EG, AR, EU, Env, bind, value, Term, stage, Below}
use Rattle.logic.specs.Meaning.{Holds}
use Rattle.logic.specs.Rules.{Walk, On, Off}
use Rattle.logic.proofs.Booleans.{T_not, differ}
use Rattle.logic.specs.Test.{Stages, eg, test, Stand}
use Rattle.logic.proofs.Compare.{Says, bind-stands}
use Rattle.logic.proofs.Successors.{eg-on}
use Rattle.logic.proofs.TestMeaning.{test-holds, eg-means, eu-means}
use Rattle.rules.specs.Kind.{Kind}
use Rattle.rules.specs.Table.{row}
use Rattle.rules.specs.declared.Rule.{Rule}
use Rattle.written.specs.Choice.{if_so, lowest_next, choice, fewest, nearest}
use Rattle.written.specs.Ways.{Lowest, Nearest}
use Rattle.written.proofs.ShapeLaws.{taken}
use Rattle.written.proofs.WalkLaws.{taken-by}
use Rattle.written.proofs.WayLaws.{lowest-in, nearest-is-nearest}

-- Two rules with different codes.
abbrev Apart : Rule → Rule → Type 0
Apart r q = T (not (eqb (row r).code (row q).code))

apart : {r q : Rule} → Apart r q → r ≡ q → ⊥
apart {r} {q} f e = differ (row r).code (row q).code f (ap (λ (k : Rule). (row k).code) e)

-- Of two such rules the first is taken exactly when the test passes, and the second exactly when it does not.
first_taken : (r q : Rule) → Apart r q → (b : Bool) → (if_so b r q ≡ r) ↔ T b
first_taken r q f true = (λ e. tt, λ t. refl)
first_taken r q f false = (λ e. absurd (apart f (sym e)), λ t. absurd t)

second-taken : (r q : Rule) → Apart r q → (b : Bool) → (if_so b r q ≡ q) ↔ (T b → ⊥)
second-taken r q f true = (λ e. absurd (apart f e), λ g. absurd (g tt))
second-taken r q f false = (λ e t. t, λ g. refl)

-- A rule other than the first is taken exactly when the test does not pass and the second is that rule.
later-taken : (r q k : Rule) → Apart r k → (b : Bool) → (if_so b r q ≡ k) ↔ (T (not b) × (q ≡ k))
later-taken r q k f true = (λ e. absurd (apart f e), λ p. absurd p.0)
later-taken r q k f false = (λ e. (tt, e), λ p. p.1)

-- For every kind but false, the rule that is taken is one of the kind's.
pub serves : (G : Graph) (K : Kind) (a b : Stages) (w : Walk) (s : ℕ) → (K ≡ Kind.False → ⊥) → (row (choice G K a b w s)).kind ≡ K
serves G Kind.True a b w s f = refl
serves G Kind.False a b w s f = absurd (f refl)
serves G Kind.Is a b w s f = refl
serves G Kind.IsNot a b w s f = refl
serves G Kind.And a b w s f = refl
serves G Kind.Or a b w s f = taken-by (λ r. (row r).kind ≡ Kind.Or) (a s) Rule.OrLeft Rule.OrRight (λ t. refl) (λ t. refl)
serves G Kind.AX a b w s f = refl
serves G Kind.EX a b w s f = refl
serves G Kind.AF a b w s f = taken-by (λ r. (row r).kind ≡ Kind.AF) (a s) Rule.AfNow Rule.AfLater (λ t. refl) (λ t. refl)
serves G Kind.EG a b w s f =
    taken-by (λ r. (row r).kind ≡ Kind.EG) (w s) Rule.EgMerge (Rule.EgOn (lowest_next G (eg G a) s)) (λ t. refl) (λ t. refl)
serves G Kind.AR a b w s f =
    taken-by (λ r. (row r).kind ≡ Kind.AR) (w s) Rule.ArMerge (if_so (a s) Rule.ArRelease Rule.ArOn) (λ t. refl)
    (λ t. taken-by (λ r. (row r).kind ≡ Kind.AR) (a s) Rule.ArRelease Rule.ArOn (λ u. refl) (λ u. refl))
serves G Kind.EU a b w s f = taken-by (λ r. (row r).kind ≡ Kind.EU) (b s) Rule.EuNow (Rule.EuLater (nearest G a b s)) (λ t. refl) (λ t. refl)

-- AR and EG: merge if on the walk. It asks nothing of the formula.
pub ar-merge : (G : Graph) (x : ℕ) (f : Formula) (y : ℕ) (g : Formula) (t : Term) (e : Env) (w : Walk) (s : ℕ)
    → (taken G (AR x f y g t) e w s ≡ Rule.ArMerge) ↔ On w s
ar-merge G x f y g t e w s =
    first_taken Rule.ArMerge _ (taken-by (Apart Rule.ArMerge) (test G f (bind e x s)) Rule.ArRelease Rule.ArOn (λ u. tt) (λ u. tt)) (w s)

pub eg-merge : (G : Graph) (x : ℕ) (f : Formula) (t : Term) (e : Env) (w : Walk) (s : ℕ) → (taken G (EG x f t) e w s ≡ Rule.EgMerge) ↔ On w s
eg-merge G x f t e w s = first_taken Rule.EgMerge _ tt (w s)

module _ {G : Graph} (R : Readable G) (e : Env) (d : Stand G.stages e) where
  -- The test of an operand says that it holds, at each stage that its variable is bound to.
  means : (f : Formula) → Below G.stages f → (x : ℕ) → Says G.stages (λ s. test G f (bind e x s)) (λ s. Holds G f (bind e x s))
  means f b x = record { at = λ s h. test-holds R f (bind e x s) b (bind-stands d x h) }

  -- Or: left if it holds.
  pub or_left : (f g : Formula) → Below G.stages f → (w : Walk) (s : ℕ) → (taken G (or f g) e w s ≡ Rule.OrLeft) ↔ Holds G f e
  or_left f g b w s = Iff.trans (first_taken Rule.OrLeft Rule.OrRight tt (test G f e)) (test-holds R f e b d)

  pub or_right : (f g : Formula) → Below G.stages f → (w : Walk) (s : ℕ) → (taken G (or f g) e w s ≡ Rule.OrRight) ↔ (Holds G f e → ⊥)
  or_right f g b w s = Iff.trans (second-taken Rule.OrLeft Rule.OrRight tt (test G f e)) (Iff.not (test-holds R f e b d))

  -- The operand a of a modality is f where x stands at a stage.
  module _ (x : ℕ) (f : Formula) (b : Below G.stages f) where
    -- EX, where it holds: the lowest successor at which a holds.
    pub ex-lowest : (t : Term) → Holds G (EX x f t) e → (w : Walk)
        → (c : ℕ) × (taken G (EX x f t) e w (value e t) ≡ Rule.Ex c) × Lowest (λ u. Next G (value e t) u × Holds G f (bind e x u)) c
    ex-lowest t h w = (
      lowest_next G (λ s. test G f (bind e x s)) (value e t),
      refl,
      lowest-in R (means f b x) (value e t) (h.0, h.1, ((means f b x).at h.0 (R.inside (value e t) h.0 h.1).1).1 h.2),
    )

    -- AF: now if a holds.
    pub af-now : (t : Term) (w : Walk) (s : ℕ) → s < G.stages → (taken G (AF x f t) e w s ≡ Rule.AfNow) ↔ Holds G f (bind e x s)
    af-now t w s h = Iff.trans (first_taken Rule.AfNow Rule.AfLater tt (test G f (bind e x s))) ((means f b x).at s h)

    pub af-later : (t : Term) (w : Walk) (s : ℕ) → s < G.stages → (taken G (AF x f t) e w s ≡ Rule.AfLater) ↔ (Holds G f (bind e x s) → ⊥)
    af-later t w s h = Iff.trans (second-taken Rule.AfNow Rule.AfLater tt (test G f (bind e x s))) (Iff.not ((means f b x).at s h))

    -- AR: merge if on the walk (`ar-merge`), else release if a holds.
    pub ar-release : (y : ℕ) (g : Formula) (t : Term) (w : Walk) (s : ℕ) → s < G.stages
        → (taken G (AR x f y g t) e w s ≡ Rule.ArRelease) ↔ (Off w s × Holds G f (bind e x s))
    ar-release y g t w s h =
        Iff.trans (later-taken Rule.ArMerge _ Rule.ArRelease tt (w s))
        (Iff.and Iff.rfl (Iff.trans (first_taken Rule.ArRelease Rule.ArOn tt (test G f (bind e x s))) ((means f b x).at s h)))

    pub ar-on : (y : ℕ) (g : Formula) (t : Term) (w : Walk) (s : ℕ) → s < G.stages
        → (taken G (AR x f y g t) e w s ≡ Rule.ArOn) ↔ (Off w s × (Holds G f (bind e x s) → ⊥))
    ar-on y g t w s h =
        Iff.trans (later-taken Rule.ArMerge _ Rule.ArOn tt (w s))
        (Iff.and Iff.rfl (Iff.trans (second-taken Rule.ArRelease Rule.ArOn tt (test G f (bind e x s))) (Iff.not ((means f b x).at s h))))

    -- EG: merge if on the walk (`eg-merge`), else, where EG holds, the lowest successor at which EG holds.
    pub eg-lowest : (t : Term) (w : Walk) (s : ℕ) → s < G.stages → Off w s → Holds G (EG x f (stage s)) e
        → (c : ℕ) × (taken G (EG x f t) e w s ≡ Rule.EgOn c) × Lowest (λ u. Next G s u × Holds G (EG x f (stage u)) e) c
    eg-lowest t w s h o v =
        let a : Stages = λ u. test G f (bind e x u) in
        let says : Says G.stages (eg G a) (λ u. Holds G (EG x f (stage u)) e) = record { at = eg-means R a _ (means f b x) } in (
          lowest_next G (eg G a) s,
          (second-taken Rule.EgMerge _ tt (w s)).1 ((T_not (w s)).0 o),
          lowest-in R says s (eg-on R a s h ((says.at s h).1 v)).1,
        )

  -- The operand b of EU is g where y stands at a stage. EU: now if b holds,
  pub eu-now : (x : ℕ) (f : Formula) (y : ℕ) (g : Formula) → Below G.stages g → (t : Term) (w : Walk) (s : ℕ) → s < G.stages
      → (taken G (EU x f y g t) e w s ≡ Rule.EuNow) ↔ Holds G g (bind e y s)
  eu-now x f y g b t w s h = Iff.trans (first_taken Rule.EuNow _ tt (test G g (bind e y s))) ((means g b y).at s h)

  -- else, where EU holds, the successor fewest steps from a now along stages with a, the lowest of equals.
  pub eu-nearest : (x : ℕ) (f : Formula) (y : ℕ) (g : Formula) → Below G.stages f → Below G.stages g → (t : Term) (w : Walk) (s : ℕ) → s < G.stages
      → (Holds G g (bind e y s) → ⊥) → Holds G (EU x f y g (stage s)) e
      → (k : ℕ) × (c : ℕ) × (taken G (EU x f y g t) e w s ≡ Rule.EuLater c) × Nearest G (λ u. Holds G f (bind e x u)) (λ u. Holds G g (bind e y u)) s k c
  eu-nearest x f y g b b' t w s h o v =
      let p : Stages = λ u. test G f (bind e x u) in
      let q : Stages = λ u. test G g (bind e y u) in
      let none : T (q s) → ⊥ = λ n. o (((means g b' y).at s h).0 n) in (
        fewest G p q s,
        nearest G p q s,
        (second-taken Rule.EuNow _ tt (q s)).1 none,
        nearest-is-nearest R p q _ _ (means f b x) (means g b' y) s none ((eu-means R p q _ _ (means f b x) (means g b' y) s h).1 v),
      )
