-- The lowest number below n that passes a test, the lowest successor in a set, and the successor nearest to a now: laws over plain values, for
-- what is written and for code that works it out.
--
--     lowest-below, lowest-passes, lowest-first     below n; it passes, if any does; nothing lower passes
--     lowest-none                                   0 where none passes
--     lowest-one, lowest-is                         one number alone passes with nothing lower passing: the lowest
--     lowest-same, lowest-next-same                 only what is below n counts
--     lowest-next, lowest-next-first                the lowest successor in a set
--     lowest-next-is                                no other is so
--     within-suc                                    one round more
--     within_more, within-rest                      more rounds keep what is there; a round that changes nothing ends the rounds
--     Near, near-more                               some successor is at most k steps from a now
--     fewest-is, fewest-near, fewest-least          how few steps it is from the nearest successor to a now
--     nearest-is, nearest-none, nearest-near        the nearest successor
use Prim.Native.Nat.{ℕ, zero, suc, ◌≤◌, ◌<◌}
use native.Mathlib.Nat.{not-suc-le-zero}
use native.Mathlib.Omega.{arith}
use mathlib.Core.Path.{◌≡◌, refl, ap, ap₂, ◌∙◌}
use mathlib.Core.Bool.{Bool, true, false, not, ◌&&◌, ◌||◌}
use mathlib.Core.Logic.Iff
use mathlib.Core.Logic.{◌↔◌, ◌⊎◌, inl, inr, ⊎_elim, ⊎_map}
use lib.Dec.{T, ltb, ltb→lt, nltb→le}
use Rattle.model.specs.Graph.{Graph, Next, Readable}
use Rattle.model.specs.Formula.{pick}
use Rattle.logic.specs.Meaning.{AtSomeNext}
use Rattle.logic.proofs.Booleans.{T_and, T-or, T_not, decide, any_below_lem, any-below-same}
use Rattle.logic.specs.Test.{Stages, iter, some_next, here_and_some, any_below}
use Rattle.logic.proofs.Rounds.{grow-is}
use Rattle.logic.proofs.Successors.{some_next_lem, some-next-same}
use Rattle.written.specs.Choice.{lowest, lowest_next, within, fewest, nearest}

-- A number is below another or it is not.
pub below? : (m n : ℕ) → (m < n) ⊎ (n ≤ m)
below? m n = ⊎_elim (λ t. inl (ltb→lt m n t)) (λ f. inr (nltb→le m n f)) (decide (ltb m n))

-- ---- the lowest number

-- Of two numbers one is picked by a test.
picked : (P : ℕ → Type 0) (b : Bool) (m k : ℕ) → (T b → P m) → (T (not b) → P k) → P (pick b m k)
picked P true m k f g = f tt
picked P false m k f g = g tt

-- The lowest number below n + 1 is the lowest below n where there is one, else n where that passes, else 0.
one_more : (P : ℕ → Type 0) (n : ℕ) (p : ℕ → Bool) → (T (any_below n p) → P (lowest n p)) → (T (not (any_below n p)) → T (p n) → P n)
    → (T (not (any_below n p)) → T (not (p n)) → P 0) → P (lowest (suc n) p)
one_more P n p below last none =
    picked P (any_below n p) (lowest n p) (pick (p n) n 0) below (λ f. picked P (p n) n 0 (last f) (none f))

-- It is below n,
pub lowest-below : (n : ℕ) (p : ℕ → Bool) → 0 < n → lowest n p < n
lowest-below zero p h = absurd (not-suc-le-zero h)
lowest-below (suc n) p h =
    one_more (λ k. k < suc n) n p
    (λ t. let f = (any_below_lem n p).0 t in omega (arith, lowest-below n p (omega (arith, f.1)))) (λ f t. omega arith) (λ f g. omega arith)

-- it passes, if any number below n does,
pub lowest-passes : (n : ℕ) (p : ℕ → Bool) (k : ℕ) → k < n → T (p k) → T (p (lowest n p))
unfolding any_below
lowest-passes n p k h t = go n ((any_below_lem n p).1 (k, h, t))
  where
    go : (n : ℕ) → T (any_below n p) → T (p (lowest n p))
    go zero u = absurd u
    go (suc n) u =
        one_more (λ k. T (p k)) n p (go n) (λ f l. l)
        (λ f g. absurd (⊎_elim ((T_not (any_below n p)).0 f) ((T_not (p n)).0 g) ((T-or (any_below n p) (p n)).0 u)))

-- and nothing lower passes.
pub lowest-first : (n : ℕ) (p : ℕ → Bool) (k : ℕ) → k < lowest n p → T (p k) → ⊥
lowest-first zero p k h t = not-suc-le-zero h
lowest-first (suc n) p k h t =
    one_more (λ l. k < l → ⊥) n p (λ u i. lowest-first n p k i t) (λ f l i. (T_not (any_below n p)).0 f ((any_below_lem n p).1 (k, i, t)))
    (λ f g. not-suc-le-zero) h

-- It is 0 where none passes.
pub lowest-none : (n : ℕ) (p : ℕ → Bool) → ((k : ℕ) → k < n → T (p k) → ⊥) → lowest n p ≡ 0
lowest-none zero p none = refl
lowest-none (suc n) p none =
    one_more (λ k. k ≡ 0) n p (λ t. let f = (any_below_lem n p).0 t in absurd (none f.0 (omega (arith, f.1)) f.2))
    (λ f t. absurd (none n (omega arith) t)) (λ f g. refl)

-- There is one number that passes with nothing lower passing:
pub lowest-one : (P : ℕ → Type 0) (c d : ℕ) → P c → ((k : ℕ) → k < c → P k → ⊥) → P d → ((k : ℕ) → k < d → P k → ⊥) → c ≡ d
lowest-one P c d t f u g =
    ⊎_elim (λ l. absurd (g c l t)) (λ l. ⊎_elim (λ m. absurd (f d m u)) (λ m. omega arith) (below? d c)) (below? c d)

-- the lowest.
pub lowest-is : (n : ℕ) (p : ℕ → Bool) (c : ℕ) → c < n → T (p c) → ((k : ℕ) → k < c → T (p k) → ⊥) → lowest n p ≡ c
lowest-is n p c h t first = lowest-one (λ k. T (p k)) (lowest n p) c (lowest-passes n p c h t) (lowest-first n p) t first

-- Tests that are the same below n have the same lowest number.
pub lowest-same : (n : ℕ) (p q : ℕ → Bool) → ((k : ℕ) → k < n → p k ≡ q k) → lowest n p ≡ lowest n q
lowest-same zero p q h = refl
lowest-same (suc n) p q h =
    let below : (k : ℕ) → k < n → p k ≡ q k = λ k i. h k (omega arith) in
    rw (any-below-same n p q below, lowest-same n p q below, h n (omega arith))

-- ---- the lowest successor

-- Sets that are the same below n have the same lowest successor of a stage.
pub lowest-next-same : (G : Graph) (x y : Stages) → ((t : ℕ) → t < G.stages → x t ≡ y t) → (s : ℕ) → lowest_next G x s ≡ lowest_next G y s
lowest-next-same G x y h s =
    lowest-same G.stages (λ t. G.next s t && x t) (λ t. G.next s t && y t) (λ t i. ap (λ (b : Bool). G.next s t && b) (h t i))

module _ {G : Graph} (R : Readable G) (x : Stages) (s : ℕ) where
  -- A stage is a successor in x.
  abbrev in-next : ℕ → Bool
  in-next t = G.next s t && x t

  -- Where s has a successor in x, the lowest one is a successor in x,
  pub lowest-next : AtSomeNext G (λ t. T (x t)) s → Next G s (lowest_next G x s) × T (x (lowest_next G x s))
  lowest-next f =
      (T_and (G.next s (lowest_next G x s)) (x (lowest_next G x s))).0
      (lowest-passes G.stages in-next f.0 (R.inside s f.0 f.1).1 ((T_and (G.next s f.0) (x f.0)).1 (f.1, f.2)))

  -- no lower successor is in x,
  pub lowest-next-first : (t : ℕ) → t < lowest_next G x s → Next G s t → T (x t) → ⊥
  lowest-next-first t h e u = lowest-first G.stages in-next t h ((T_and (G.next s t) (x t)).1 (e, u))

  -- and no other successor is so.
  pub lowest-next-is : (c : ℕ) → Next G s c → T (x c) → ((t : ℕ) → t < c → Next G s t → T (x t) → ⊥) → lowest_next G x s ≡ c
  lowest-next-is c e u first =
      lowest-is G.stages in-next c (R.inside s c e).1 ((T_and (G.next s c) (x c)).1 (e, u))
      (λ t h v. let p = (T_and (G.next s t) (x t)).0 v in first t h p.0 p.1)

-- ---- the nearest successor

-- After one more round is a stage that was there before, or one with a and a successor that was.
pub within-suc : (G : Graph) (a b : Stages) (k s : ℕ)
    → T (within G a b (suc k) s) ↔ (T (within G a b k s) ⊎ (T (a s) × T (some_next G (within G a b k) s)))
unfolding iter
within-suc G a b k s =
    Iff.trans (grow-is (here_and_some G a) (within G a b k) s)
    (⊎_map (λ u. u) (T_and (a s) (some_next G (within G a b k) s)).0, ⊎_map (λ u. u) (T_and (a s) (some_next G (within G a b k) s)).1)

-- More rounds keep what is there.
pub within_more : (G : Graph) (a b : Stages) (j k : ℕ) → j ≤ k → (s : ℕ) → T (within G a b j s) → T (within G a b k s)
within_more G a b j zero h s t = let e : j ≡ 0 = omega arith in rw e at t
within_more G a b j (suc k) h s t =
    ⊎_elim (λ l. (within-suc G a b k s).1 (inl (within_more G a b j k (omega arith) s t))) (λ l. let e : j ≡ suc k = omega arith in rw e at t)
    (below? j (suc k))

-- A round that changes nothing below n ends the rounds.
pub within-rest : (G : Graph) (a b : Stages) (k : ℕ) → ((s : ℕ) → s < G.stages → within G a b (suc k) s ≡ within G a b k s)
    → (j : ℕ) → k ≤ j → (s : ℕ) → s < G.stages → within G a b j s ≡ within G a b k s
unfolding iter
within-rest G a b k still zero h s i = let e : k ≡ 0 = omega arith in rw e
within-rest G a b k still (suc j) h s i =
    ⊎_elim (λ l. let r = within-rest G a b k still j (omega arith) in
    ap₂ (λ (u v : Bool). u || (a s && v)) (r s i) (some-next-same G (within G a b j) (within G a b k) r s) ∙ still s i)
    (λ l. let e : k ≡ suc j = omega arith in rw e) (below? k (suc j))

-- Some successor of s is at most k steps from a now.
abbrev pub Near : Graph → Stages → Stages → ℕ → ℕ → Type 0
Near G a b s k = T (some_next G (within G a b k) s)

module _ (G : Graph) (a b : Stages) (s : ℕ) where
  -- The test of `Near`.
  abbrev near : ℕ → Bool
  near k = some_next G (within G a b k) s

  -- Where some successor is at most k steps from a now, and none is at most fewer, k is how many steps the nearest is from one,
  pub fewest-is : (k : ℕ) → k < G.stages → Near G a b s k → ((j : ℕ) → j < k → Near G a b s j → ⊥) → fewest G a b s ≡ k
  fewest-is k h t first = lowest-is G.stages near k h t first

  -- and the nearest is the lowest of the successors at most k steps from one.
  pub nearest-is : (k : ℕ) → k < G.stages → Near G a b s k → ((j : ℕ) → j < k → Near G a b s j → ⊥)
      → nearest G a b s ≡ lowest_next G (within G a b k) s
  nearest-is k h t first = ap (λ (j : ℕ). lowest_next G (within G a b j) s) (fewest-is k h t first)

  -- Where no successor is any number of steps from a now, 0 stands for the nearest.
  pub nearest-none : ((k : ℕ) → k < G.stages → Near G a b s k → ⊥) → nearest G a b s ≡ 0
  unfolding iter some_next
  nearest-none none =
      ap (λ (j : ℕ). lowest_next G (within G a b j) s) (lowest-none G.stages near none)
      ∙ lowest-none G.stages (λ t. G.next s t && b t) (λ t h u. none 0 (omega arith) ((any_below_lem G.stages (λ v. G.next s v && b v)).1 (t, h, u)))

  -- Where some successor is at most k steps from a now, some successor is as few as the fewest from one, and those are at most k.
  pub fewest-near : (k : ℕ) → k < G.stages → Near G a b s k → Near G a b s (fewest G a b s)
  fewest-near k h t = lowest-passes G.stages near k h t

  pub fewest-least : (k : ℕ) → Near G a b s k → fewest G a b s ≤ k
  fewest-least k t = ⊎_elim (λ l. absurd (lowest-first G.stages near k l t)) (λ l. l) (below? k (fewest G a b s))

module _ {G : Graph} (R : Readable G) (a b : Stages) (s : ℕ) where
  -- What is near stays so with more steps.
  pub near-more : (j k : ℕ) → j ≤ k → Near G a b s j → Near G a b s k
  near-more j k h t =
      let c = (some_next_lem R (within G a b j) s).0 t in (some_next_lem R (within G a b k) s).1 (c.0, c.1, within_more G a b j k h c.0 c.2)

  -- The nearest is a successor, and at most k steps from a now where any is.
  pub nearest-near : (k : ℕ) → k < G.stages → Near G a b s k → Next G s (nearest G a b s) × T (within G a b k (nearest G a b s))
  nearest-near k h t =
      let m = fewest G a b s in
      let c = lowest-next R (within G a b m) s ((some_next_lem R (within G a b m) s).0 (fewest-near G a b s k h t)) in
      (c.0, within_more G a b m k (fewest-least G a b s k t) (nearest G a b s) c.1)
