-- The executable test of a formula, and no theorem. It is no part of what document 01 says: meaning, path-trees and rules are each compared with it
-- (`proofs/TestMeaning`, `TreesMeaning`, `Sound`, `Complete`) and so with one another, and code that computes with sets of stages is compared with its
-- rounds.
--
--     all_below, any_below                      a test at every number below n, at some number below n
--     Stand                                   every variable stands at a stage
--     Stages                                  a set of stages, as a test
--     each_next, some_next                      the stages with every successor, with some successor, in a set
--     shrink, grow, iter                      a round, which only removes or only adds stages, and k rounds
--     release_or_each, here_and_some              what a round of AR, of EU, asks of a stage
--     eg_round, af_round, ar_round, eu_round  the round of each modality
--     eg, af, ar, eu                          as many rounds as there are stages
--     test                                    whether a formula holds
use Rattle.std.specs.Prelude.{ℕ, zero, suc, ◌<◌, Bool, true, false, not, ◌&&◌, ◌||◌}
use Rattle.model.specs.Graph.{Graph}
use Rattle.model.specs.Formula.{Formula, truth, falsity, is, is_not, and, or, AX, EX, AF, EG, AR, EU, Env, bind, value, atom}

-- p at every number below n
unfoldable pub all_below : ℕ → (ℕ → Bool) → Bool
all_below zero p = true
all_below (suc n) p = all_below n p && p n

-- p at some number below n
unfoldable pub any_below : ℕ → (ℕ → Bool) → Bool
any_below zero p = false
any_below (suc n) p = any_below n p || p n

-- Every variable stands at a stage below n.
abbrev pub Stand : ℕ → Env → Type 0
Stand n e = (v : ℕ) → e v < n

-- A set of stages, as a test.
abbrev pub Stages : Type 0
Stages = ℕ → Bool

-- the stages that are not in x
abbrev pub outside : Stages → Stages
outside x = λ s. not (x s)

-- A round that keeps of x what also passes `op x`, and one that adds to x what passes it.
abbrev pub shrink : (Stages → Stages) → Stages → Stages
shrink op x = λ s. x s && op x s

abbrev pub grow : (Stages → Stages) → Stages → Stages
grow op x = λ s. x s || op x s

-- k rounds, from x
unfoldable pub iter : (Stages → Stages) → ℕ → Stages → Stages
iter round zero x = x
iter round (suc k) x = round (iter round k x)

module _ (G : Graph) where
  -- the stages all of whose successors are in x
  unfoldable pub each_next : Stages → Stages
  each_next x = λ s. all_below G.stages (λ t. not (G.next s t) || x t)

  -- the stages with a successor in x
  unfoldable pub some_next : Stages → Stages
  some_next x = λ s. any_below G.stages (λ t. G.next s t && x t)

  -- a, or every successor in x: what AR asks of a stage of x
  abbrev pub release_or_each : Stages → Stages → Stages
  release_or_each a x = λ s. a s || each_next x s

  -- a, and some successor in x: what EU asks of a stage to be added to x
  abbrev pub here_and_some : Stages → Stages → Stages
  here_and_some a x = λ s. a s && some_next x s

  -- EG, from the stages with a: x, and some successor in x.
  abbrev pub eg_round : Stages → Stages
  eg_round = shrink some_next

  -- AF, from the stages with a: x, or every successor in x.
  abbrev pub af_round : Stages → Stages
  af_round = grow each_next

  -- AR, from the stages with b: x, and a or every successor in x.
  abbrev pub ar_round : Stages → Stages → Stages
  ar_round a = shrink (release_or_each a)

  -- EU, from the stages with b: x, or a and some successor in x.
  abbrev pub eu_round : Stages → Stages → Stages
  eu_round a = grow (here_and_some a)

  -- As many rounds as there are stages.
  abbrev pub eg : Stages → Stages
  eg a = iter eg_round G.stages a

  abbrev pub af : Stages → Stages
  af a = iter af_round G.stages a

  abbrev pub ar : Stages → Stages → Stages
  ar a b = iter (ar_round a) G.stages b

  abbrev pub eu : Stages → Stages → Stages
  eu a b = iter (eu_round a) G.stages b

  -- Whether a formula holds where the variables stand as e has them.
  abbrev pub test : Formula → Env → Bool
  test truth e = true
  test falsity e = false
  test (is q) e = atom G e q
  test (is_not q) e = not (atom G e q)
  test (and a b) e = test a e && test b e
  test (or a b) e = test a e || test b e
  test (AX x a t) e = each_next (λ s. test a (bind e x s)) (value e t)
  test (EX x a t) e = some_next (λ s. test a (bind e x s)) (value e t)
  test (AF x a t) e = af (λ s. test a (bind e x s)) (value e t)
  test (EG x a t) e = eg (λ s. test a (bind e x s)) (value e t)
  test (AR x a y b t) e = ar (λ s. test a (bind e x s)) (λ s. test b (bind e y s)) (value e t)
  test (EU x a y b t) e = eu (λ s. test a (bind e x s)) (λ s. test b (bind e y s)) (value e t)
