-- Which bytes are accepted as the steps of a proof: exactly the steps of derivations, each derivation by steps of its own.
--
--     formula-law                   every formula's reader is faithful
--     read-to-end                   a reading comes to an end exactly where the steps of a derivation end
--     certificate                   the bytes after a certificate's header, with nothing remaining
--     prefix-free, steps-differ     no derivation's steps are another's, nor go on as another's
--     accepted-some                 a formula has accepted steps exactly when it has a derivation
--     one-accepted, not-both-accepted      so of a formula and its dual exactly one has
use Prim.Native.Nat.{ℕ, suc, ◌+◌, ◌≤◌, ◌<◌}
use native.Mathlib.Omega.{arith}
use mathlib.Core.Path.{◌≡◌, sym, ap, subst, ◌∙◌}
use mathlib.Core.Bool.{true}
use mathlib.Core.Logic.{◌↔◌, ◌⊎◌, ⊎_map}
use mathlib.Core.List.{List, [], ◌++◌}
use lib.ListN.{length, drop, length-append}
use lib.Seq.{drop-append_seam}
use Rattle.model.specs.Graph.{Graph, Readable}
use Rattle.model.specs.Formula.{Formula, truth, falsity, is, is_not, and, or, AX, EX, AF, EG, AR, EU, Env, bind, value, atom, dual, Below}
use Rattle.logic.specs.Rules.{empty, Derived}
use Rattle.logic.proofs.Booleans.{count, count-max}
use Rattle.logic.specs.Test.{outside, Stand}
use Rattle.logic.proofs.ExactlyOne.{one_side, not_both}
use Rattle.rules.specs.Kind.{Kind}
use Rattle.rules.specs.Spelled.{Spelled}
use Rattle.rules.specs.Steps.{encode}
use Rattle.rules.specs.Reading.{read_formula, no_entry}
use Rattle.std.specs.Prelude.{Ok}
use Rattle.rules.proofs.Rows.{inside, to_the_end, after}
use Rattle.rules.proofs.Faithful.{Faithful, of_none}
use Rattle.rules.proofs.StepLaws.{walk-law}

-- Some steps after a header are accepted as those of a formula, with nothing remaining.
abbrev pub Accepted : ℕ → Graph → List ℕ → Formula → Env → Type 0
Accepted room G header f e =
    (steps : List ℕ) × (read_formula room G (header ++ steps) f e (length header) ≡ Ok (length (header ++ steps)))

module _ {room : ℕ} {G : Graph} (R : Readable G) (small : G.stages ≤ room) where
  -- A walk starts with fuel for every stage.
  pub fuel : count G.stages (outside empty) < suc room
  fuel = omega (arith, count-max G.stages (outside empty))

  -- For false there is no derivation, and no steps.
  false-law : (bytes : List ℕ) → Faithful bytes (no_entry room G bytes 0) ⊥ (λ d. [])
  false-law bytes = walk-law R true (λ s. of_none) (λ s. of_none) Kind.False (suc room) empty fuel 0

  -- Every formula's reader reads the steps of its derivations.
  pub formula-law : (bytes : List ℕ) (f : Formula) (e : Env) → Faithful bytes (read_formula room G bytes f e) (Derived G f e) (encode G f e)
  formula-law bytes truth e = walk-law R true (λ s. false-law bytes) (λ s. false-law bytes) Kind.True (suc room) empty fuel 0
  formula-law bytes falsity e = false-law bytes
  formula-law bytes (is q) e = walk-law R (atom G e q) (λ s. false-law bytes) (λ s. false-law bytes) Kind.Is (suc room) empty fuel 0
  formula-law bytes (is_not q) e = walk-law R (atom G e q) (λ s. false-law bytes) (λ s. false-law bytes) Kind.IsNot (suc room) empty fuel 0
  formula-law bytes (and f g) e =
      walk-law R true (λ s. formula-law bytes f e) (λ s. formula-law bytes g e) Kind.And (suc room) empty fuel 0
  formula-law bytes (or f g) e =
      walk-law R true (λ s. formula-law bytes f e) (λ s. formula-law bytes g e) Kind.Or (suc room) empty fuel 0
  formula-law bytes (AX x f t) e =
      walk-law R true (λ s. formula-law bytes f (bind e x s)) (λ s. false-law bytes) Kind.AX (suc room) empty fuel (value e t)
  formula-law bytes (EX x f t) e =
      walk-law R true (λ s. formula-law bytes f (bind e x s)) (λ s. false-law bytes) Kind.EX (suc room) empty fuel (value e t)
  formula-law bytes (AF x f t) e =
      walk-law R true (λ s. formula-law bytes f (bind e x s)) (λ s. false-law bytes) Kind.AF (suc room) empty fuel (value e t)
  formula-law bytes (EG x f t) e =
      walk-law R true (λ s. formula-law bytes f (bind e x s)) (λ s. false-law bytes) Kind.EG (suc room) empty fuel (value e t)
  formula-law bytes (AR x f y g t) e =
      walk-law R true (λ s. formula-law bytes f (bind e x s)) (λ s. formula-law bytes g (bind e y s)) Kind.AR (suc room) empty fuel (value e t)
  formula-law bytes (EU x f y g t) e =
      walk-law R true (λ s. formula-law bytes f (bind e x s)) (λ s. formula-law bytes g (bind e y s)) Kind.EU (suc room) empty fuel (value e t)

  module _ (f : Formula) (e : Env) where
    -- ACCEPTANCE. A reading from a place comes to an end exactly where the steps of a derivation, from that place, end.
    pub read-to-end : (bytes : List ℕ) (at end : ℕ)
        → (read_formula room G bytes f e at ≡ Ok end) ↔ ((d : Derived G f e) × Spelled bytes (encode G f e d) at end)
    read-to-end bytes at end = ((formula-law bytes f e).proves, λ d. (formula-law bytes f e).accepts d.0 d.1)

    -- Where it began within the bytes, it ends within them.
    pub ends-inside : (bytes : List ℕ) {at end : ℕ} → at ≤ length bytes → read_formula room G bytes f e at ≡ Ok end → end ≤ length bytes
    ends-inside bytes {at} {end} h r = inside ((read-to-end bytes at end).0 r).1 h

    -- With nothing remaining: the bytes from a place on, for a certificate 8, are accepted exactly when they are the steps of a derivation.
    pub certificate : (bytes : List ℕ) (at : ℕ) → at ≤ length bytes
        → (read_formula room G bytes f e at ≡ Ok (length bytes)) ↔ ((d : Derived G f e) × (drop at bytes ≡ encode G f e d))
    certificate bytes at h = (
      λ r. let d = (read-to-end bytes at (length bytes)).0 r in (d.0, (to_the_end h).0 d.1),
      λ d. (read-to-end bytes at (length bytes)).1 (d.0, (to_the_end h).1 d.1),
    )

    -- UNIQUENESS. No derivation's steps go on as another's,
    pub prefix-free : (d d' : Derived G f e) (xs ys : List ℕ) → encode G f e d ++ xs ≡ encode G f e d' ++ ys → (d ≡ d') × (xs ≡ ys)
    prefix-free d d' xs ys h = (same, rest)
      where
        z : Derived G f e → List ℕ
        z = encode G f e

        there : Spelled (z d ++ xs) (z d') 0 (0 + length (z d'))
        there = subst (λ (l : List ℕ). Spelled l (z d') 0 (0 + length (z d'))) (sym h) (after [] (z d') ys)

        same : d ≡ d'
        same = (formula-law (z d ++ xs) f e).unique d d' (after [] (z d) xs) there

        rest : xs ≡ ys
        rest =
            sym (drop-append_seam (z d) xs) ∙ ap (drop (length (z d))) h ∙ ap (λ (k : Derived G f e). drop (length (z k)) (z d' ++ ys)) same
            ∙ drop-append_seam (z d') ys

    -- so derivations with the same steps are equal.
    pub steps-differ : (d d' : Derived G f e) → encode G f e d ≡ encode G f e d' → d ≡ d'
    steps-differ d d' h = (prefix-free d d' [] [] (ap (λ (l : List ℕ). l ++ []) h)).0

  -- There are such steps exactly when there is a derivation.
  pub accepted-some : (header : List ℕ) (f : Formula) (e : Env) → Accepted room G header f e ↔ Derived G f e
  accepted-some header f e = (
    λ r. ((certificate f e (header ++ r.0) (length header) (omega (arith, length-append header r.0))).0 r.1).0,
    λ d. (
      encode G f e d,
      (certificate f e (header ++ encode G f e d) (length header) (omega (arith, length-append header (encode G f e d)))).1
          (d, drop-append_seam header (encode G f e d)),
    ),
  )

  -- Of a formula and its dual one has accepted steps, and not both have.
  module _ (f : Formula) (e : Env) (b : Below G.stages f) (d : Stand G.stages e) where
    pub one-accepted : (header : List ℕ) → Accepted room G header f e ⊎ Accepted room G header (dual f) e
    one-accepted header = ⊎_map (accepted-some header f e).1 (accepted-some header (dual f) e).1 (one_side R f e b d)

    pub not-both-accepted : (header header' : List ℕ) → Accepted room G header f e → Accepted room G header' (dual f) e → ⊥
    not-both-accepted header header' u v = not_both R f e b d ((accepted-some header f e).0 u) ((accepted-some header' (dual f) e).0 v)
