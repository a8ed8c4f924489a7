-- From the set of EU(true, fired) to the dead ends.
--
--     Able, never-able              EU(true, fired); no path reaches predicate 0 exactly when it does not hold
--     able-test                     the rounds that test it
--     dead-unless                   a set of the stages at which it does not hold is the set of the dead ends
--     listed-dead                   the set that the code lists
--     clear-image, all-stages, clear-row
--                                   an image that the report does not refuse, its stages, and the row that is decoded of it
--
-- Assumes nothing.
use Prim.Native.Nat.{ℕ, ◌-◌, ◌≤◌, ◌<◌, min}
use native.Mathlib.Omega.{arith}
use mathlib.Core.Path.{◌≡◌, sym, subst}
use mathlib.Core.Bool.{Bool}
use mathlib.Core.List.{List}
use mathlib.Core.Logic.Iff
use mathlib.Core.Logic.{◌↔◌}
use lib.Bits.{bit_and}
use lib.Dec.{T}
use lib.ListN.{length}
use Rattle.sets.specs.declared.Set.{Set}
use Rattle.model.specs.Graph.{Graph, Readable}
use Rattle.logic.specs.Meaning.{Path, OnSomeUntil}
use Rattle.logic.specs.Test.{Stages, eu}
use Rattle.logic.proofs.TestMeaning.{eu-means}
use Rattle.sets.specs.Member.{Has}
use Rattle.sets.specs.Number.{width}
use Rattle.sets.proofs.LawsMember.{has-test, has-minus}
use Rattle.modal.specs.Row.{member, Row, Computes}
use Rattle.modal.specs.Modal.{eu_of}
use Rattle.modal.proofs.LawsMember.{below, has_all, inside-all}
use Rattle.format.specs.Refusal.{Clear}
use Rattle.format.specs.Image.{stages_of, first_set, set_of, graph_of, image_conditions}
use Rattle.format.proofs.RefusalLaws.{clear_first}
use Rattle.format.proofs.ReadableLaws.{sizes, readable}
use Rattle.hand.specs.Setup.{Decoded}
use Rattle.verdict.proofs.DecodeLaws.{decoded-row}
use Rattle.deadends.specs.DeadEnd.{Fired, DeadEndsOf, fired_conditions, report_conditions}

-- ---- paths

-- EU(true, fired): some path has a stage of predicate 0. Of the stages before that one nothing is asked.
abbrev pub Able : Graph → ℕ → Type 0
Able G s = OnSomeUntil G (λ t. Unit {0}) (Fired G) s

-- No path reaches predicate 0 exactly when this does not hold.
pub never-able : (G : Graph) (s : ℕ) → ((p : Path G s) (i : ℕ) → Fired G (p.at i) → ⊥) ↔ (Able G s → ⊥)
never-able G s = (λ f a. f a.0 a.1 a.2, λ f p i h. f (p, i, h, λ j l. tt))

-- It is tested by rounds, over tests that pass on every stage and on the stages of predicate 0.
pub able-test : {G : Graph} → Readable G → (a b : Stages) → ((s : ℕ) → s < G.stages → T (a s)) → ((s : ℕ) → s < G.stages → T (b s) ↔ Fired G s)
    → (s : ℕ) → s < G.stages → T (eu G a b s) ↔ Able G s
able-test {G} R a b every fired =
    eu-means R a b (λ t. Unit {0}) (Fired G) (record { at = λ t h. (λ u. tt, λ u. every t h) }) (record { at = fired })

-- A set of the stages at which it does not hold is the set of the dead ends.
pub dead-unless : (G : Graph) (set : ℕ) → ((s : ℕ) → Has set s ↔ ((s < G.stages) × (Able G s → ⊥))) → DeadEndsOf G set
dead-unless G set unless s = (
  λ h. let u = (unless s).0 h in record { stage = u.0; never = (never-able G s).1 u.1 },
  λ d. (unless s).1 (d.stage, (never-able G s).0 d.never),
)

-- ---- an image that nothing refuses

module _ {image : List ℕ} (clear : Clear (report_conditions image)) where
  -- It is an image that is not refused,
  pub clear-image : Clear (image_conditions image)
  clear-image = clear_first (image_conditions image) (fired_conditions image) clear

  -- whose stages are all within the width,
  pub all-stages : {n m : ℕ} → n ≡ stages_of image → m ≡ min n width → m ≡ stages_of image
  all-stages n-is m-is = let few = (sizes image clear-image).stages in omega arith

  -- and the row that is decoded of it holds its graph.
  pub clear-row : {n : ℕ} {before row : List Set} → n ≡ stages_of image → width ≤ length before → Decoded image n before row → Row row n (graph_of image)
  clear-row e long d =
      let few = (sizes image clear-image).stages in
      decoded-row e (omega arith) long d

  -- All stages less those at which EU(true, fired) holds are the dead ends.
  pub listed-dead : {next : List Set} {n all fired able dead : ℕ} → Row next n (graph_of image) → all ≡ below n → fired ≡ set_of image (first_set image 0)
      → Computes next n (eu_of all fired) able → dead ≡ all - bit_and all able → DeadEndsOf (graph_of image) dead
  listed-dead {next} {n} {all} {fired} {able} {dead} row every is-fired found rest = dead-unless (graph_of image) dead unless
    where
      each : (s : ℕ) → s < stages_of image → Has all s
      each s h = has_all every row.room (omega (arith, row.stages))

      found-able : (s : ℕ) → s < stages_of image → Has able s ↔ Able (graph_of image) s
      found-able s h =
          Iff.trans (Iff.symm (has-test able s))
          (subst (λ (b : Bool). T b ↔ Able (graph_of image) s) (sym (found.right (graph_of image) row s (omega (arith, row.stages))))
          (able-test (readable image clear-image) (member all) (member fired)
          (λ t i. (has-test all t).1 (each t i))
          (λ t i. subst (λ (x : ℕ). T (member fired t) ↔ T (member x t)) is-fired Iff.rfl)
          s
          h))

      unless : (s : ℕ) → Has dead s ↔ ((s < stages_of image) × (Able (graph_of image) s → ⊥))
      unless s = (
        λ h.
            let m = (has-minus all able s).0 (subst (λ (x : ℕ). Has x s) rest h) in
            let low : s < stages_of image = omega (arith, inside-all every s m.0, row.stages) in
            (low, λ a. m.1 ((found-able s low).1 a)),
        λ u. subst (λ (x : ℕ). Has x s) (sym rest) ((has-minus all able s).1 (each s u.0, λ h. u.1 ((found-able s u.0).0 h))),
      )
