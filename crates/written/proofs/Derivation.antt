-- The steps that are written for a formula that holds are those of a derivation whose rules are chosen as document 01 says: `written_ours`. It is a line
-- for each kind, over the laws of `WalkLaws`.
--
--     written_ours         where the test passes
--     written-derived      the same with nothing said of the rules
--     written-proves       where the formula holds
--     written-accepted     so it is read to its end, with nothing remaining
--     one-side-written     of a formula and its dual, the side that holds
use Prim.Native.Nat.{ℕ, suc, ◌≤◌, ◌<◌}
use native.Mathlib.Omega.{arith}
use mathlib.Core.Path.{◌≡◌, refl, sym, ◌∙◌}
use mathlib.Core.Bool.{◌&&◌, ◌||◌}
use mathlib.Core.Logic.{◌⊎◌, ⊎_map}
use mathlib.Core.List.{List, ◌++◌}
use lib.Dec.{T}
use lib.ListN.{length, length-append}
use lib.Seq.{drop-append_seam}
use Rattle.model.specs.Graph.{Graph, Readable}
use Rattle.model.specs.Formula.{Formula, truth, falsity, is, is_not, and, or, AX, EX, AF, EG, AR, EU, Env, bind, value, Term, dual, TermBelow, Below}
use Rattle.logic.specs.Meaning.{Holds}
use Rattle.logic.specs.Rules.{empty, Derived}
use Rattle.logic.specs.Test.{Stages, each_next, some_next, eg, af, ar, eu, test, Stand}
use Rattle.logic.proofs.Compare.{bind-stands, term-stands}
use Rattle.logic.proofs.TestMeaning.{test-holds}
use Rattle.logic.proofs.Duality.{dual-below, holds-or-dual}
use Rattle.rules.specs.Kind.{Kind}
use Rattle.rules.specs.Steps.{no_steps, encode}
use Rattle.rules.specs.Reading.{read_formula}
use Rattle.std.specs.Prelude.{Ok}
use Rattle.rules.proofs.Accepted.{certificate}
use Rattle.written.specs.Chosen.{nowhere, no_ours, Ours}
use Rattle.written.specs.Written.{Entry, along, entry, no_entry, written_on, written}
use Rattle.written.proofs.WalkLaws.{Meant, Proves, Derives, and-derives, or-derives, ax-derives, ex-derives, af-derives, eg-derives, ar-derives, eu-derives}

module _ {G : Graph} (R : Readable G) where
  -- What is written for f is the steps of a derivation of it that is ours, wherever its variables stand.
  abbrev Writes : Formula → Type 0
  Writes f =
      (e : Env) → Below G.stages f → Stand G.stages e → T (test G f e)
      → (d : Derived G f e) × Ours G f e d × (encode G f e d ≡ written G f e)

  -- The formula f where the variables stand at a stage as `envs` has them, and an entry that a formula does not have.
  abbrev meant : Formula → (ℕ → Env) → Meant
  meant f envs = record {
    holds = λ s. Holds G f (envs s);
    derived = λ s. Derived G f (envs s);
    ours = λ s. Ours G f (envs s);
    steps = λ s. encode G f (envs s);
  }

  abbrev nothing : Meant
  nothing = record { holds = nowhere; derived = nowhere; ours = no_ours; steps = no_steps }

  -- What is written for f proves it, at each stage at which its variables stand at stages; and what holds nowhere is proved where it holds.
  entry-proves : (f : Formula) → Writes f → Below G.stages f → (envs : ℕ → Env) → ((s : ℕ) → s < G.stages → Stand G.stages (envs s))
      → Proves G.stages (entry G f envs (λ s. written_on G f (envs s))) (meant f envs)
  entry-proves f writes b envs stand = record {
    says = record { at = λ s h. test-holds R f (envs s) b (stand s h) };
    at = λ s h. writes (envs s) b (stand s h);
  }

  nothing-proves : Proves G.stages (no_entry G) nothing
  nothing-proves = record { says = record { at = λ s h. (λ t. absurd t, λ t. absurd t) }; at = λ s h t. absurd t }

  -- Where the entries' steps are those of derivations that are ours, so are those of the kind K at the stages where `holds` passes.
  abbrev Law : Kind → (Stages → Stages → Stages) → Type 1
  Law K holds =
      (A B : Entry) (M N : Meant) → Proves G.stages A M → Proves G.stages B N
      → (s : ℕ) → s < G.stages → T (holds A.holds B.holds s) → Derives G M N K empty s (along G K A B (suc G.stages) empty s)

  -- A modality over one operand, and one over two.
  modal-writes : (K : Kind) (holds : Stages → Stages) → Law K (λ a b. holds a) → (x : ℕ) (f : Formula) (t : Term) → Writes f
      → (e : Env) → TermBelow G.stages t × Below G.stages f → Stand G.stages e → T (holds (λ s. test G f (bind e x s)) (value e t))
      → Derives G (meant f (bind e x)) nothing K empty (value e t)
      (along G K (entry G f (bind e x) (λ s. written_on G f (bind e x s))) (no_entry G) (suc G.stages) empty (value e t))
  modal-writes K holds law x f t writes e b d u =
      law _ _ _ _ (entry-proves f writes b.1 (bind e x) (λ s h. bind-stands d x h)) nothing-proves (value e t) (term-stands d t b.0) u

  modal₂-writes : (K : Kind) (holds : Stages → Stages → Stages) → Law K holds → (x : ℕ) (f : Formula) (y : ℕ) (g : Formula) (t : Term) → Writes f → Writes g
      → (e : Env) → TermBelow G.stages t × Below G.stages f × Below G.stages g → Stand G.stages e
      → T (holds (λ s. test G f (bind e x s)) (λ s. test G g (bind e y s)) (value e t))
      → Derives G (meant f (bind e x)) (meant g (bind e y)) K empty (value e t)
      (along G K (entry G f (bind e x) (λ s. written_on G f (bind e x s))) (entry G g (bind e y) (λ s. written_on G g (bind e y s)))
      (suc G.stages) empty (value e t))
  modal₂-writes K holds law x f y g t wf wg e b d u =
      law _ _ _ _ (entry-proves f wf b.1 (bind e x) (λ s h. bind-stands d x h)) (entry-proves g wg b.2 (bind e y) (λ s h. bind-stands d y h))
      (value e t) (term-stands d t b.0) u

  -- Two formulas joined. Their variables stand alike at every stage.
  joined-writes : (K : Kind) (holds : Stages → Stages → Stages) → Law K holds → (f g : Formula) → Writes f → Writes g
      → (e : Env) → Below G.stages f × Below G.stages g → Stand G.stages e → T (holds (λ s. test G f e) (λ s. test G g e) 0)
      → Derives G (meant f (λ s. e)) (meant g (λ s. e)) K empty 0
      (along G K (entry G f (λ s. e) (λ s. written_on G f e)) (entry G g (λ s. e) (λ s. written_on G g e)) (suc G.stages) empty 0)
  joined-writes K holds law f g wf wg e b d u =
      law _ _ _ _ (entry-proves f wf b.0 (λ s. e) (λ s h. d)) (entry-proves g wg b.1 (λ s. e) (λ s h. d)) 0 (omega (arith, d 0)) u

-- THE CERTIFICATE WE WRITE IS A PROOF, AND OURS: what is written for a formula that holds is the steps of a derivation of it, every rule of which is the
-- one that document 01 names.
pub written_ours : {G : Graph} → Readable G → (f : Formula) (e : Env) → Below G.stages f → Stand G.stages e → T (test G f e)
    → (d : Derived G f e) × Ours G f e d × (encode G f e d ≡ written G f e)
written_ours R truth = λ e b d t. (tt, refl, refl)
written_ours R falsity = λ e b d t. absurd t
written_ours R (is q) = λ e b d t. (t, refl, refl)
written_ours R (is_not q) = λ e b d t. (t, refl, refl)
written_ours R (and f g) = joined-writes R Kind.And (λ a b s. a s && b s) (and-derives R) f g (written_ours R f) (written_ours R g)
written_ours R (or f g) = joined-writes R Kind.Or (λ a b s. a s || b s) (or-derives R) f g (written_ours R f) (written_ours R g)
written_ours {G} R (AX x f t) = modal-writes R Kind.AX (each_next G) (ax-derives R) x f t (written_ours R f)
written_ours {G} R (EX x f t) = modal-writes R Kind.EX (some_next G) (ex-derives R) x f t (written_ours R f)
written_ours {G} R (AF x f t) = modal-writes R Kind.AF (af G) (af-derives R) x f t (written_ours R f)
written_ours {G} R (EG x f t) = modal-writes R Kind.EG (eg G) (eg-derives R) x f t (written_ours R f)
written_ours {G} R (AR x f y g t) = modal₂-writes R Kind.AR (ar G) (ar-derives R) x f y g t (written_ours R f) (written_ours R g)
written_ours {G} R (EU x f y g t) = modal₂-writes R Kind.EU (eu G) (eu-derives R) x f y g t (written_ours R f) (written_ours R g)

-- The same with nothing said of the rules.
pub written-derived : {G : Graph} → Readable G → (f : Formula) (e : Env) → Below G.stages f → Stand G.stages e → T (test G f e)
    → (d : Derived G f e) × (encode G f e d ≡ written G f e)
written-derived R f e b d t = let p = written_ours R f e b d t in (p.0, p.2)

module _ {G : Graph} (R : Readable G) (f : Formula) (e : Env) (b : Below G.stages f) (d : Stand G.stages e) where
  -- The same of a formula that holds.
  pub written-proves : Holds G f e → (p : Derived G f e) × (encode G f e p ≡ written G f e)
  written-proves u = written-derived R f e b d ((test-holds R f e b d).1 u)

  -- So what is written after a header is accepted as its steps, with nothing remaining.
  pub written-accepted : {room : ℕ} → G.stages ≤ room → (header : List ℕ) → Holds G f e
      → read_formula room G (header ++ written G f e) f e (length header) ≡ Ok (length (header ++ written G f e))
  written-accepted small header u =
      let p = written-proves u in
      (certificate R small f e (header ++ written G f e) (length header) (omega (arith, length-append header (written G f e)))).1
      (p.0, drop-append_seam header (written G f e) ∙ sym p.1)

-- Of a formula and its dual one holds, and what is written for that side is a proof of it.
pub one-side-written : {G : Graph} → Readable G → (f : Formula) (e : Env) → Below G.stages f → Stand G.stages e
    → ((p : Derived G f e) × (encode G f e p ≡ written G f e)) ⊎ ((p : Derived G (dual f) e) × (encode G (dual f) e p ≡ written G (dual f) e))
one-side-written {G} R f e b d =
    ⊎_map (written-proves R f e b d) (written-proves R (dual f) e (dual-below G.stages f b) d) (holds-or-dual R f e b d)
