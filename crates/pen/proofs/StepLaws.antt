-- What a guide tells in the words of an entry's fields, and one step of each walk in the words of the contracts.
--
--     noted-new, noted_more              the lengths of AF that are noted
--     known_past, known-fits             a length of AF that is known says how far its steps go
--     one-ends, two_ends                 no fuel is left
--     told-true, told-false, choice-of, collects-of, leads-of, nearest-of
--                                        what the guide says of operands that are read of the entry, said of those of its record
--     af-now-steps, af-later-steps       AF at a stage
--     eg-begins, eg-merges, eg-goes      EG in a loop
--     ar-begins, ar-merges, ar-releases, ar-goes
--                                        AR at a stage
--     eu-begins, eu-stops, eu-goes       EU in a loop
use Prim.Native.Nat.{ℕ, suc, ◌+◌, ◌-◌, ◌≤◌, ◌<◌}
use native.Mathlib.Omega.{arith}
use mathlib.Core.Path.{◌≡◌, refl, sym, ap, ap₂, subst, ◌∙◌}
use mathlib.Core.Bool.{Bool, true, false}
use mathlib.Core.List.{List, [], ◌∷◌, ◌++◌, append_assoc}
use lib.Bits.{bit_or}
use lib.Dec.{T}
use mathlib.Core.Logic.{⊎_elim}
use lib.ListN.{length, get_or, set, replicate, length-replicate, get_or-replicate, get_or-eq_default}
use lib.Seq.{get_or-set_same, get_or-set_other, set_out}
use Rattle.sets.proofs.LawsMember.{same?, side?}
use Rattle.logic.specs.Rules.{Walk, empty, also, On}
use Rattle.logic.specs.Test.{Stages, eg, eu}
use Rattle.sets.specs.Number.{single, width}
use Rattle.format.specs.Image.{stages_of, graph_of}
use Rattle.format.specs.declared.record.Kind.TheVariants as K
use Rattle.rules.specs.Kind.{Kind}
use Rattle.rules.specs.Table.{row}
use Rattle.rules.specs.declared.Rule.{Rule}
use Rattle.hand.specs.Environment.{env_of}
use Rattle.hand.specs.declared.env.Env.{Env as Slots}
use Rattle.verdict.specs.Evaluation.{Collects}
use Rattle.written.specs.Choice.{lowest_next, nearest}
use Rattle.written.specs.Written.{through, no_entry}
use Rattle.guide.specs.Sides.{truth_on, held_on}
use Rattle.guide.specs.Toward.{Filled}
use Rattle.checker.specs.Reading.{walk_of}
use Rattle.pen.specs.Wrote.{Wrote}
use Rattle.pen.specs.Steps.{entry_steps, bound_entry, a_of, b_of, start_of, one_steps, two_steps, af_steps, InHand, Noted, AfAt}
use Rattle.pen.specs.declared.run.Run.{Run}
use Rattle.pen.proofs.RunLaws.{run-readable, run-stages}
use Rattle.pen.proofs.KindLaws.{eg-start, ar-start, eu-start}
use Rattle.pen.proofs.WriterLaws.{walk-on, walk_none, Going}
use Rattle.pen.proofs.AfLaws.{af-now, af-later}
use Rattle.pen.proofs.AlongLaws.{eg-merge, eg-on-at, ar-merge, ar-release, ar-on-at, eu-now, eu-later}

-- ---- walks in a loop

-- A walk of EG that holds.
pub record EgGoing (image table : List ℕ) (side e : ℕ) (env : Slots) (w : Bool) (place : ℕ) (before : List ℕ) (walk s left : ℕ) (out : List ℕ) (here : ℕ)
    : Type 0 where
  pub going : Going w (entry_steps image table side e (env_of env))
      (one_steps image table side Kind.EG e (env_of env) left (walk_of walk) s) place before out here
  pub below : s < stages_of image
  pub holds : T (eg (graph_of image) (a_of image table side e (env_of env)).holds s)

-- A walk of EU that holds, wherever it has been.
pub record EuGoing (image table : List ℕ) (side e : ℕ) (env : Slots) (w : Bool) (place : ℕ) (before : List ℕ) (s left : ℕ) (out : List ℕ) (here : ℕ)
    : Type 0 where
  pub walk : Walk
  pub going : Going w (entry_steps image table side e (env_of env)) (two_steps image table side Kind.EU e (env_of env) left walk s) place before out here
  pub below : s < stages_of image
  pub holds : T (eu (graph_of image) (a_of image table side e (env_of env)).holds (b_of image table side e (env_of env)).holds s)

-- ---- whatever is lent

-- No length is known yet.
abbrev none-known : List ℕ
none-known = replicate width 0

pub noted-new : (image table : List ℕ) (side e : ℕ) (env : Slots) → Noted image table side e (env_of env) none-known
noted-new image table side e env = record { each = λ s h. absurd (omega (arith, none s, h)) }
  where
    none : (s : ℕ) → get_or none-known s 0 ≡ 0
    none s = ⊎_elim (get_or-replicate width s 0 0) (λ h. get_or-eq_default none-known 0 {n = s} (omega (arith, length-replicate {A = ℕ} width 0, h))) (side? s width)

-- A length that the buffer has room for is noted, where there is room for it.
pub noted_more : (image table : List ℕ) (side e : ℕ) (env : Slots) {lens : List ℕ} {w : Bool} (s : ℕ) {p q : ℕ} {l k : List ℕ}
    → Noted image table side e (env_of env) lens → Wrote w (af_steps image table side e (env_of env) s) p l k q → q ≤ length l
    → Noted image table side e (env_of env) (set lens s (q - p))
noted_more image table side e env {lens} s {p} {q} n wrote fits =
    ⊎_elim (λ h. record {
      each = λ t i. ⊎_elim
          (λ (d : t ≡ s). subst (λ (u : ℕ). get_or (set lens s (q - p)) u 0 ≡ length (af_steps image table side e (env_of env) u)) (sym d)
          (get_or-set_same lens s (q - p) 0 h ∙ omega (arith, wrote.goes)))
          (λ d. get_or-set_other lens s t (q - p) 0 d ∙ n.each t (subst (λ (z : ℕ). 0 < z) (get_or-set_other lens s t (q - p) 0 d) i)) (same? t s);
    }) (λ h. rw (set_out lens s (q - p) h) n) (side? s (length lens))

module _ {image table : List ℕ} {side e : ℕ} {env : Slots} {stop s left : ℕ} {lens : List ℕ} (at : AfAt image table side e env stop s left lens) where
  -- The length that is known says how far the steps go, where they are only counted: past the end, or not.
  module _ {w : Bool} {known : ℕ} (p : ℕ) (l : List ℕ) (counts : w ≡ false) (some : 0 < known) (is_Known : known
      ≡ get_or lens s 0) (in_Buffer : p ≤ length l) where
    long : known ≡ length (af_steps image table side e (env_of env) s)
    long = is_Known ∙ at.noted.each s (omega (arith, is_Known))

    pub known_past : length l - p < known → Wrote w (af_steps image table side e (env_of env) s) p l l (length l + 1)
    known_past h = rw counts (record { goes = omega (arith, long); leaves = refl })

    pub known-fits : known ≤ length l - p → Wrote w (af_steps image table side e (env_of env) s) p l l (p + known)
    known-fits h = rw counts (record { goes = omega (arith, long); leaves = refl })

-- Without fuel nothing remains.
pub one-ends : (image table : List ℕ) (side e : ℕ) (env : Slots) (k : Kind) {left : ℕ} (w : Walk) (s : ℕ) → left ≡ 0
    → one_steps image table side k e (env_of env) left w s ≡ []
unfolding one_steps
one-ends image table side e env k w s z = ap (λ (m : ℕ). one_steps image table side k e (env_of env) m w s) z

pub two_ends : (image table : List ℕ) (side e : ℕ) (env : Slots) (k : Kind) {left : ℕ} (w : Walk) (s : ℕ) → left ≡ 0
    → two_steps image table side k e (env_of env) left w s ≡ []
unfolding two_steps
two_ends image table side e env k w s z = ap (λ (m : ℕ). two_steps image table side k e (env_of env) m w s) z

module _ (run : Run) where
  abbrev image : List ℕ
  image = run.setup.image.now

  abbrev table : List ℕ
  table = run.setup.table.now

  abbrev side : ℕ
  side = run.side

  -- ---- what the guide says

  module _ (env : Slots) {o o' : ℕ} (o_is : o' ≡ o) where
    -- Whether an operand holds,
    pub told-true : {b : Bool} → b ≡ truth_on image table side o' env → b ≡ true → T (truth_on image table side o env)
    told-true e t = subst T (sym t ∙ e ∙ ap (λ (i : ℕ). truth_on image table side i env) o_is) tt

    pub told-false : {b : Bool} → b ≡ truth_on image table side o' env → b ≡ false → T (truth_on image table side o env) → ⊥
    told-false e f u = subst T (ap (λ (i : ℕ). truth_on image table side i env) (sym o_is) ∙ sym e ∙ f) u

    module _ {v v' : ℕ} (v-is : v' ≡ v) where
      held-is : held_on image table side o' env v' ≡ (bound_entry image table side o v (env_of env)).holds
      held-is = ap₂ (λ (i j : ℕ). held_on image table side i env j) o_is v-is

      -- the stages at which it does,
      pub collects-of : {r : ℕ} → Collects run.setup.stages (held_on image table side o' env v') r
          → Collects (stages_of image) (bound_entry image table side o v (env_of env)).holds r
      collects-of {r} c =
          subst (λ (k : ℕ). Collects k (bound_entry image table side o v (env_of env)).holds r) (run-stages run)
          (subst (λ (x : Stages). Collects run.setup.stages x r) held-is c)

      -- the successor that EX chooses,
      pub choice-of : {s s' c : ℕ} → s' ≡ s → c ≡ lowest_next (graph_of image) (held_on image table side o' env v') s'
          → c ≡ lowest_next (graph_of image) (bound_entry image table side o v (env_of env)).holds s
      choice-of s-is e = e ∙ ap₂ (lowest_next (graph_of image)) held-is s-is

      -- and that of EG.
      pub leads-of : {s : ℕ} {before after : List ℕ} → s < stages_of image
          → Filled run.setup.stages (lowest_next (graph_of image) (eg (graph_of image) (held_on image table side o' env v'))) before after
          → get_or after s 0 ≡ lowest_next (graph_of image) (eg (graph_of image) (bound_entry image table side o v (env_of env)).holds) s
      leads-of {s} h f = f.each s (omega (arith, run-stages run)) ∙ ap (λ (x : Stages). lowest_next (graph_of image) (eg (graph_of image) x) s) held-is

      -- And that of EU.
      pub nearest-of : {p p' y y' s : ℕ} {before after : List ℕ} → p' ≡ p → y' ≡ y → s < stages_of image
          → Filled run.setup.stages (nearest (graph_of image) (held_on image table side o' env v') (held_on image table side p' env y')) before after
          → get_or after s 0 ≡ nearest (graph_of image) (bound_entry image table side o v (env_of env)).holds
          (bound_entry image table side p y (env_of env)).holds s
      nearest-of {s = s} p-is y-is h f =
          f.each s (omega (arith, run-stages run))
          ∙ ap₂ (λ (x z : Stages). nearest (graph_of image) x z s) held-is (ap₂ (λ (i j : ℕ). held_on image table side i env j) p-is y-is)

  -- ---- AF

  module _ {e : ℕ} {env : Slots} {stop s left : ℕ} {lens : List ℕ} (at : AfAt image table side e env stop s left lens) where
    -- Now.
    pub af-now-steps : T ((a_of image table side e (env_of env)).holds s)
        → ((row Rule.AfNow).code ∷ []) ++ (a_of image table side e (env_of env)).steps s ≡ af_steps image table side e (env_of env) s
    unfolding one_steps
    af-now-steps t =
        af-now (run-readable run) (a_of image table side e (env_of env)) (no_entry (graph_of image)) (stages_of image) empty s t

    -- At each successor.
    pub af-later-steps : (T ((a_of image table side e (env_of env)).holds s) → ⊥)
        → ((row Rule.AfLater).code ∷ []) ++ through (stages_of image) ((graph_of image).next s) (af_steps image table side e (env_of env))
        ≡ af_steps image table side e (env_of env) s
    unfolding one_steps
    af-later-steps f =
        af-later (run-readable run) (a_of image table side e (env_of env)) (no_entry (graph_of image)) left s
        (omega (arith, at.fuel)) at.lasts f

  -- ---- EG

  module _ {e : ℕ} {env : Slots} where
    -- At the start.
    pub eg-begins : {left walk s : ℕ} → InHand image table side e env K.EG → left ≡ suc (stages_of image) → walk ≡ 0
        → s ≡ start_of image table side e (env_of env)
        → one_steps image table side Kind.EG e (env_of env) left (walk_of walk) s ≡ entry_steps image table side e (env_of env)
    eg-begins {walk = walk} {s = s} h full walk_is s-is =
        ap₂ (λ (m : ℕ) (w : Walk). one_steps image table side Kind.EG e (env_of env) m w s) full (walk_none walk_is)
        ∙ ap (λ (t : ℕ). one_steps image table side Kind.EG e (env_of env) (suc (stages_of image)) empty t) s-is ∙ eg-start run h

  -- A step of it, and of AR.
  module _ (e : ℕ) (env : Slots) (walk s : ℕ) {left rest : ℕ} (more : left ≡ suc rest) where
    pub eg-merges : On (walk_of walk) s → (row Rule.EgMerge).code ∷ [] ≡ one_steps image table side Kind.EG e (env_of env) left (walk_of walk) s
    unfolding one_steps
    eg-merges o =
        eg-merge (graph_of image) (a_of image table side e (env_of env)) (no_entry (graph_of image)) rest (walk_of walk) s o
        ∙ ap (λ (m : ℕ). one_steps image table side Kind.EG e (env_of env) m (walk_of walk) s) (sym more)

    pub eg-goes : {c longer : ℕ} → s < width → (On (walk_of walk) s → ⊥) → longer ≡ bit_or walk (single s)
        → c ≡ lowest_next (graph_of image) (eg (graph_of image) (a_of image table side e (env_of env)).holds) s
        → (((row (Rule.EgOn c)).code ∷ []) ++ ((c ∷ []) ++ (a_of image table side e (env_of env)).steps s))
        ++ one_steps image table side Kind.EG e (env_of env) rest (walk_of longer) c
        ≡ one_steps image table side Kind.EG e (env_of env) left (walk_of walk) s
    unfolding one_steps
    eg-goes {c} {longer} room off longer-is c-is =
        append_assoc ((row (Rule.EgOn c)).code ∷ []) ((c ∷ []) ++ (a_of image table side e (env_of env)).steps s) _
        ∙ ap (λ (w : Walk). ((row (Rule.EgOn c)).code ∷ []) ++ ((c ∷ []) ++ ((a_of image table side e (env_of env)).steps s
        ++ one_steps image table side Kind.EG e (env_of env) rest w c))) (walk-on walk s room longer-is)
        ∙ eg-on-at (graph_of image) (a_of image table side e (env_of env)) (no_entry (graph_of image)) rest (walk_of walk) s c off c-is
        ∙ ap (λ (m : ℕ). one_steps image table side Kind.EG e (env_of env) m (walk_of walk) s) (sym more)

    -- ---- AR

    pub ar-merges : On (walk_of walk) s → (row Rule.ArMerge).code ∷ [] ≡ two_steps image table side Kind.AR e (env_of env) left (walk_of walk) s
    unfolding two_steps
    ar-merges o =
        ar-merge (graph_of image) (a_of image table side e (env_of env)) (b_of image table side e (env_of env)) rest (walk_of walk) s o
        ∙ ap (λ (m : ℕ). two_steps image table side Kind.AR e (env_of env) m (walk_of walk) s) (sym more)

    pub ar-releases : (On (walk_of walk) s → ⊥) → T ((a_of image table side e (env_of env)).holds s)
        → ((row Rule.ArRelease).code ∷ []) ++ ((a_of image table side e (env_of env)).steps s ++ (b_of image table side e (env_of env)).steps s)
        ≡ two_steps image table side Kind.AR e (env_of env) left (walk_of walk) s
    unfolding two_steps
    ar-releases off t =
        ar-release (graph_of image) (a_of image table side e (env_of env)) (b_of image table side e (env_of env)) rest (walk_of walk) s off t
        ∙ ap (λ (m : ℕ). two_steps image table side Kind.AR e (env_of env) m (walk_of walk) s) (sym more)

    pub ar-goes : {longer : ℕ} → s < width → (On (walk_of walk) s → ⊥) → longer ≡ bit_or walk (single s)
        → (T ((a_of image table side e (env_of env)).holds s) → ⊥)
        → ((row Rule.ArOn).code ∷ []) ++ ((b_of image table side e (env_of env)).steps s
        ++ through (stages_of image) ((graph_of image).next s) (two_steps image table side Kind.AR e (env_of env) rest (walk_of longer)))
        ≡ two_steps image table side Kind.AR e (env_of env) left (walk_of walk) s
    unfolding two_steps
    ar-goes {longer} room off longer-is f =
        ap (λ (w : Walk). ((row Rule.ArOn).code ∷ []) ++ ((b_of image table side e (env_of env)).steps s
        ++ through (stages_of image) ((graph_of image).next s) (two_steps image table side Kind.AR e (env_of env) rest w))) (walk-on walk s room longer-is)
        ∙ ar-on-at (graph_of image) (a_of image table side e (env_of env)) (b_of image table side e (env_of env)) rest (walk_of walk) s off f
        ∙ ap (λ (m : ℕ). two_steps image table side Kind.AR e (env_of env) m (walk_of walk) s) (sym more)

  -- ---- EU

  module _ (e : ℕ) (env : Slots) (s : ℕ) {left rest : ℕ} (more : left ≡ suc rest) where
    pub eu-stops : (w : Walk) → T ((b_of image table side e (env_of env)).holds s)
        → ((row Rule.EuNow).code ∷ []) ++ (b_of image table side e (env_of env)).steps s ≡ two_steps image table side Kind.EU e (env_of env) left w s
    unfolding two_steps
    eu-stops w t =
        eu-now (graph_of image) (a_of image table side e (env_of env)) (b_of image table side e (env_of env)) rest w s t
        ∙ ap (λ (m : ℕ). two_steps image table side Kind.EU e (env_of env) m w s) (sym more)

    pub eu-goes : {c : ℕ} (w : Walk) → (T ((b_of image table side e (env_of env)).holds s) → ⊥)
        → c ≡ nearest (graph_of image) (a_of image table side e (env_of env)).holds (b_of image table side e (env_of env)).holds s
        → (((row (Rule.EuLater c)).code ∷ []) ++ ((c ∷ []) ++ (a_of image table side e (env_of env)).steps s))
        ++ two_steps image table side Kind.EU e (env_of env) rest (also w s) c
        ≡ two_steps image table side Kind.EU e (env_of env) left w s
    unfolding two_steps
    eu-goes {c} w f c-is =
        append_assoc ((row (Rule.EuLater c)).code ∷ []) ((c ∷ []) ++ (a_of image table side e (env_of env)).steps s) _
        ∙ eu-later (graph_of image) (a_of image table side e (env_of env)) (b_of image table side e (env_of env)) rest w s c f c-is
        ∙ ap (λ (m : ℕ). two_steps image table side Kind.EU e (env_of env) m w s) (sym more)

  module _ {e : ℕ} {env : Slots} where
    -- AR and EU at the start.
    pub ar-begins : {left walk s : ℕ} → InHand image table side e env K.AR → left ≡ suc (stages_of image) → walk ≡ 0
        → s ≡ start_of image table side e (env_of env)
        → two_steps image table side Kind.AR e (env_of env) left (walk_of walk) s ≡ entry_steps image table side e (env_of env)
    ar-begins {walk = walk} {s = s} h full walk_is s-is =
        ap₂ (λ (m : ℕ) (w : Walk). two_steps image table side Kind.AR e (env_of env) m w s) full (walk_none walk_is)
        ∙ ap (λ (t : ℕ). two_steps image table side Kind.AR e (env_of env) (suc (stages_of image)) empty t) s-is ∙ ar-start run h

    pub eu-begins : {left s : ℕ} → InHand image table side e env K.EU → left ≡ suc (stages_of image) → s ≡ start_of image table side e (env_of env)
        → two_steps image table side Kind.EU e (env_of env) left empty s ≡ entry_steps image table side e (env_of env)
    eu-begins h full s-is =
        ap₂ (λ (m t : ℕ). two_steps image table side Kind.EU e (env_of env) m empty t) full s-is ∙ eu-start run h
