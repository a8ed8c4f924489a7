-- What it means that nothing is refused: the sizes are in their ranges and no set has a stage above them, the graph is readable, each
-- formula names stages of it only and nests at most 4 modalities, and no variable but 0 is free in the goal.
use Prim.Native.Nat.{ℕ, zero, suc, ◌≤◌, ◌<◌}
use native.Mathlib.Omega.{arith}
use native.Mathlib.Nat.{pos_of_ne-zero}
use mathlib.Core.Path.{◌≡◌, refl}
use mathlib.Core.Bool.{Bool, true, false, ◌&&◌}
use mathlib.Core.List.{List}
use mathlib.Core.Logic.{⊎_elim}
use lib.Dec.{T, ltb, ltb→lt, lt→ltb}
use Rattle.model.specs.Graph.{Next, Readable}
use Rattle.model.specs.Formula.{Free, Below, nesting}
use Rattle.sets.specs.Member.{Has}
use Rattle.sets.proofs.LawsMember.{side?, has-test, empty-zero}
use Rattle.sets.proofs.LawsCount.{ones-some, ones-zero}
use Rattle.format.specs.Refusal.{Clear}
use Rattle.format.specs.Image.{stages_of, predicates_of, sets_in, set_of, member, graph_of, SizesFit, image_conditions}
use Rattle.format.specs.Table.{entries_of, record_at, tree_of, Ruled, EntriesFit, table_conditions}
use Rattle.format.specs.Question.{setup_conditions, goal_conditions, question_conditions}
use Rattle.format.proofs.ImageLaws.{first-least}
use Rattle.format.proofs.RefusalLaws.{clear_first, clear_later}
use Rattle.format.proofs.Decision.{sizes-fit?, entries-fit?, ruled?, stable}
use Rattle.format.proofs.RuledLaws.{ruled-below, ruled-free}

-- The parts of a question that is not refused.
pub of-setup : (image table : List ℕ) (goal start : ℕ) → Clear (question_conditions image table goal start) → Clear (setup_conditions image table)
of-setup image table goal start = clear_first (setup_conditions image table) (goal_conditions image table goal start)

pub of-goal : (image table : List ℕ) (goal start : ℕ) → Clear (question_conditions image table goal start) → Clear (goal_conditions image table goal start)
of-goal image table goal start = clear_later (setup_conditions image table) (goal_conditions image table goal start)

pub of_image : (image table : List ℕ) → Clear (setup_conditions image table) → Clear (image_conditions image)
of_image image table = clear_first (image_conditions image) (table_conditions image table)

pub of-table : (image table : List ℕ) → Clear (setup_conditions image table) → Clear (table_conditions image table)
of-table image table = clear_later (image_conditions image) (table_conditions image table)

-- The sizes of an image and the entries of a table that are not refused.
pub sizes : (image : List ℕ) → Clear (image_conditions image) → SizesFit image
sizes image clear = stable (sizes-fit? image) clear.1.0

pub entries : (image table : List ℕ) → Clear (table_conditions image table) → EntriesFit table
entries image table clear = stable (entries-fit? table) clear.1.0

-- Both halves of a test.
both_left : (a b : Bool) → T (a && b) → T a
both_left true b t = tt
both_left false b t = elim t [ ]

both_right : (a b : Bool) → T (a && b) → T b
both_right true b t = t
both_right false b t = elim t [ ]

both : (a b : Bool) → T a → T b → T (a && b)
both true b p q = q
both false b p q = elim p [ ]

-- The graph of an image that is not refused is readable: an edge joins two stages, and every stage has a successor.
pub readable : (image : List ℕ) → Clear (image_conditions image) → Readable (graph_of image)
readable image clear = record { inside = inside; total = total }
  where
    inside : (s t : ℕ) → Next (graph_of image) s t → (s < stages_of image) × (t < stages_of image)
    inside s t h =
        let from : s < stages_of image = ltb→lt s (stages_of image) (both_left (ltb s (stages_of image)) (member (set_of image s) t) h) in
        let edge : Has (set_of image s) t = (has-test (set_of image s) t).0 (both_right (ltb s (stages_of image)) (member (set_of image s) t) h) in
        let low : stages_of image ≤ t → ⊥ = λ up.
        clear.1.1.1.0
        (record { set = s; one_of = omega (arith, first-least image (predicates_of image)); at = record { stage = t; high = up; in_set = edge } }) in
        (from, ⊎_elim (λ g. g) (λ g. absurd (low g)) (side? t (stages_of image)))

    total : (s : ℕ) → s < stages_of image → (t : ℕ) × Next (graph_of image) s t
    total s h =
        let some = ones-some (set_of image s) (pos_of_ne-zero (λ e.
        clear.1.1.1.1.0 (record { stage = s; below = h; none = (empty-zero (set_of image s)).1 ((ones-zero (set_of image s)).0 e) }))) in
        let edge : T (member (set_of image s) some.0) = (has-test (set_of image s) some.0).1 some.1 in
        (some.0, both (ltb s (stages_of image)) (member (set_of image s) some.0) (lt→ltb s (stages_of image) h) edge)

-- No set of such an image has a stage at or above n.
pub sets_below : (image : List ℕ) → Clear (image_conditions image) → (i : ℕ) → i < sets_in image → (k : ℕ) → Has (set_of image i) k → k < stages_of image
sets_below image clear i h k in_set =
    ⊎_elim (λ g. g)
    (λ up. absurd (clear.1.1.1.0 (record { set = i; one_of = h; at = record { stage = k; high = up; in_set = in_set } })))
    (side? k (stages_of image))

-- The records of a table that is not refused keep their rules.
pub ruled : (image table : List ℕ) → Clear (setup_conditions image table) → (e : ℕ) → e < entries_of table → Ruled image e (record_at table e)
ruled image table clear e h =
    stable (ruled? image e (record_at table e)) (λ f. (of-table image table clear).1.1.0 (record { entry = e; below = h; broken = f }))

-- Each formula of the table names stages of the graph only, and nests at most 4 modalities.
pub tree-below : (image table : List ℕ) → Clear (setup_conditions image table) → (e : ℕ) → e < entries_of table
    → Below (stages_of image) (tree_of image table e)
tree-below image table clear e h =
    ruled-below image table (entries_of table) (sizes image (of_image image table clear)).stages (ruled image table clear) e h

pub nests : (image table : List ℕ) → Clear (setup_conditions image table) → (e : ℕ) → e < entries_of table → nesting (tree_of image table e) ≤ 4
nests image table clear e h =
    ⊎_elim
    (λ deep. absurd ((of-table image table clear).1.1.1.1.0 (record { entry = e; below = h; deep = deep })))
    (λ g. g)
    (side? 4 (nesting (tree_of image table e)))

-- The goal of a question that is not refused is an entry, its start a stage, and no variable but 0 is free in it.
module _ (image table : List ℕ) (goal start : ℕ) (clear : Clear (question_conditions image table goal start)) where
  pub goal-below : goal < entries_of table
  goal-below = ⊎_elim (λ g. g) (λ up. absurd ((of-goal image table goal start clear).0 up)) (side? goal (entries_of table))

  pub start-below : start < stages_of image
  start-below = ⊎_elim (λ g. g) (λ up. absurd ((of-goal image table goal start clear).1.0 up)) (side? start (stages_of image))

  pub only_zero : (v : ℕ) → Free v (tree_of image table goal) → v ≡ 0
  only_zero zero f = refl
  only_zero (suc v) f =
      absurd
      ((of-goal image table goal start clear).1.1.0
      (record {
        variable = suc v;
        from = omega arith;
        to =
            omega (
              arith,
              ruled-free image table (entries_of table)
                  (sizes image (of_image image table (of-setup image table goal start clear))).stages
                  (ruled image table (of-setup image table goal start clear))
                  (suc v)
                  goal
                  goal-below
                  f,
            );
        free = f;
      }))
