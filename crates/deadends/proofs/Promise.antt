-- The promise of the dead-end report, on bytes. An answer that meets the contract of `report` lists a stage exactly when no path from it has a
-- stage of predicate 0, which is when EU(true, fired) does not hold there, and counts what it lists; it is a refusal exactly when document 01
-- gives it. Two answers that meet a contract are one, with the buffer after it; and the number and the buffer tell the report.
--
--     report-once, code-once                    one answer; one number and one buffer
--     refused-exactly, listed-exactly           a refusal, and a list, exactly when
--     never-exactly, unless-reached             a stage is listed exactly when
--     only-stages, fired-not, counted           only stages are; none that has fired; and how many are
--     coded-injective                           the coding for callers in C
--     code-refused, code-kept, code-listed, code-short, code-rest
--                                               what the exported function gives, on numbers and bytes alone
--
-- Assumes nothing.
use Prim.Native.Nat.{ℕ, ◌+◌, ◌^◌, ◌≤◌, ◌<◌}
use native.Mathlib.Nat.{lt_of_lt_of_le}
use native.Mathlib.Omega.{arith}
use mathlib.Core.Path.{◌≡◌, refl, sym, ap, ◌∙◌, subst}
use mathlib.Core.List.{List}
use mathlib.Core.Logic.Iff
use mathlib.Core.Logic.{◌↔◌, ⊎_elim}
use lib.Count.{ones}
use lib.ListN.{length, drop}
use lib.Pow.{pow_mono}
use Rattle.model.specs.Formula.{Env}
use Rattle.std.specs.Prelude.{Result, Ok, Err}
use Rattle.logic.specs.Meaning.{Path, Holds}
use Rattle.logic.proofs.Paths.{some-path}
use Rattle.sets.specs.Member.{bit, Has}
use Rattle.sets.specs.Number.{number, width, size, stored}
use Rattle.sets.proofs.LawsMember.{side?, within-antisym, below-lt}
use Rattle.sets.proofs.LawsCount.{passing, ones-members}
use Rattle.sets.proofs.LawsRow.{set_same}
use Rattle.format.specs.Refusal.{Given, Clear}
use Rattle.format.specs.Refusal.{number as refusal}
use Rattle.format.specs.Image.{stages_of, graph_of}
use Rattle.format.specs.declared.Refusal.{Refusal}
use Rattle.format.proofs.RefusalLaws.{given-one, clear_none, number-injective, number_small}
use Rattle.format.proofs.ReadableLaws.{sizes, readable}
use Rattle.deadends.specs.DeadEnd.{Fired, can_fire, report_conditions}
use Rattle.deadends.specs.Report.{Listed, ReportAnswer, coded, Lent, CodedReport}
use Rattle.deadends.specs.declared.answer.DeadEnds.{DeadEnds}
use Rattle.sets.proofs.LawsStored.{front-once, stored_back}
use Rattle.deadends.proofs.DeadEndLaws.{Able, never-able, clear-image}

-- ---- what is listed

module _ {image : List ℕ} {set count : ℕ} (p : Listed image set count) where
  -- Of the stages below n exactly those are listed from which no path has a stage of predicate 0,
  pub never-exactly : (s : ℕ) → s < stages_of image → Has set s ↔ ((q : Path (graph_of image) s) (i : ℕ) → Fired (graph_of image) (q.at i) → ⊥)
  never-exactly s h = (λ m. ((p.dead s).0 m).never, λ f. (p.dead s).1 (record { stage = h; never = f }))

  -- which are those at which EU(true, fired) does not hold, wherever the other variables stand.
  pub unless-reached : (s : ℕ) → s < stages_of image → (e : Env) → e 0 ≡ s → Has set s ↔ (Holds (graph_of image) can_fire e → ⊥)
  unless-reached s h e at =
      subst (λ (t : ℕ). Has set s ↔ (Able (graph_of image) t → ⊥)) (sym at) (Iff.trans (never-exactly s h) (never-able (graph_of image) s))

  -- Nothing else is listed,
  pub only-stages : (s : ℕ) → Has set s → s < stages_of image
  only-stages s m = ((p.dead s).0 m).stage

  -- and no stage that has fired: the stage itself counts.
  pub fired-not : (s : ℕ) → Fired (graph_of image) s → Has set s → ⊥
  fired-not s f m =
      let path = some-path (readable image (clear-image p.clear)) s (only-stages s m) in
      ((p.dead s).0 m).never path 0 (subst (Fired (graph_of image)) (sym path.first) f)

  -- The count is the number of the stages below n that are listed.
  pub counted : count ≡ passing (bit set) (stages_of image)
  counted = p.many ∙ ones-members set (stages_of image) ((below-lt set (stages_of image)).0 only-stages)

  -- The set fits the width.
  listed-fits : set < 2 ^ width
  listed-fits =
      lt_of_lt_of_le ((below-lt set (stages_of image)).0 only-stages)
      (pow_mono {i = stages_of image} {j = width} (sizes image (clear-image p.clear)).stages)

-- ---- one answer

module _ (image : List ℕ) where
  -- Sets that list the same dead ends are one number.
  listed_same : {a b m n : ℕ} → Listed image a m → Listed image b n → a ≡ b
  listed_same {a} {b} p q = within-antisym a b (λ s h. (q.dead s).1 ((p.dead s).0 h)) (λ s h. (p.dead s).1 ((q.dead s).0 h))

  -- Two answers to one image are one.
  pub report-once : (r s : Result DeadEnds Refusal) → ReportAnswer image r → ReportAnswer image s → r ≡ s
  report-once (Ok a) (Ok b) p q =
      let e = listed_same p q in
      let set = set_same a.set b.set e in
      let count : a.count ≡ b.count = p.many ∙ ap ones e ∙ sym q.many in
      λ i. Ok (record { set = set i; count = count i })
  report-once (Ok a) (Err k) p q = absurd (clear_none (report_conditions image) k p.clear q)
  report-once (Err j) (Ok b) p q = absurd (clear_none (report_conditions image) j q.clear p)
  report-once (Err j) (Err k) p q = ap Err (given-one (report_conditions image) j k p q)

  -- A refusal comes exactly when document 01 gives it,
  pub refused-exactly : (r : Result DeadEnds Refusal) (k : Refusal) → ReportAnswer image r → (r ≡ Err k) ↔ Given (report_conditions image) k
  refused-exactly r k p = (λ e. subst (ReportAnswer image) e p, λ g. report-once r (Err k) p g)

  -- and a list exactly when nothing is refused.
  pub listed-exactly : (r : Result DeadEnds Refusal) → ReportAnswer image r → ((d : DeadEnds) × (r ≡ Ok d)) ↔ Clear (report_conditions image)
  listed-exactly r p = (λ e. let l : Listed image (number e.0.set) e.0.count = subst (ReportAnswer image) e.1 p in l.clear, listed r p)
    where
      listed : (s : Result DeadEnds Refusal) → ReportAnswer image s → Clear (report_conditions image) → (d : DeadEnds) × (s ≡ Ok d)
      listed (Ok d) q c = (d, refl)
      listed (Err k) q c = absurd (clear_none (report_conditions image) k c q)

-- ---- the coding for callers in C

-- From the number and the buffer the report is told, whatever the images, where the buffer has room for a set: no refusal has the number of a list.
pub coded-injective : (i j before after : List ℕ) → size ≤ length before → (r s : Result DeadEnds Refusal) → ReportAnswer i r → ReportAnswer j s
    → coded r ≡ coded s → Lent r before after → Lent s before after → r ≡ s
coded-injective i j before after room (Ok a) (Ok b) p q e f g =
    let set = set_same a.set b.set (sym (stored_back (listed-fits p) room f) ∙ stored_back (listed-fits q) room g) in
    let count : a.count ≡ b.count = omega (arith, e) in
    λ i. Ok (record { set = set i; count = count i })
coded-injective i j before after room (Ok a) (Err k) p q e f g = absurd (omega (arith, e, number_small k))
coded-injective i j before after room (Err k) (Ok b) p q e f g = absurd (omega (arith, e, number_small k))
coded-injective i j before after room (Err k) (Err l) p q e f g = ap Err (number-injective k l e)

-- Two buffers after one report are one.
lent-once : (r : Result DeadEnds Refusal) (before a b : List ℕ) → Lent r before a → Lent r before b → a ≡ b
lent-once (Ok d) before a b p q = front-once p q
lent-once (Err k) before a b p q = p ∙ sym q

-- Two numbers that meet the contract of the exported function are one, and so are the buffers.
pub code-once : (image before : List ℕ) (m n : ℕ) (a b : List ℕ) → CodedReport image before m a → CodedReport image before n b → (m ≡ n) × (a ≡ b)
code-once image before m n a b p q =
    let e = report-once image p.report q.report p.answer q.answer in (
      p.code ∙ ap coded e ∙ sym q.code,
      lent-once q.report before a b (subst (λ (r : Result DeadEnds Refusal). Lent r before a) e p.buffer) q.buffer,
    )

module _ {image before after : List ℕ} {m : ℕ} (p : CodedReport image before m after) where
  -- The number is a refusal's exactly when document 01 gives the refusal,
  pub code-refused : (k : Refusal) → (m ≡ refusal k) ↔ Given (report_conditions image) k
  code-refused k = (
    λ e. told p.report p.answer (sym p.code ∙ e),
    λ g. p.code ∙ ap coded ((refused-exactly image p.report k p.answer).1 g),
  )
    where
      told : (r : Result DeadEnds Refusal) → ReportAnswer image r → coded r ≡ refusal k → Given (report_conditions image) k
      told (Ok d) q e = absurd (omega (arith, number_small k))
      told (Err j) q e = subst (Given (report_conditions image)) (number-injective j k e) q

  -- and then the buffer is as it was.
  pub code-kept : (k : Refusal) → Given (report_conditions image) k → after ≡ before
  code-kept k g = subst (λ (r : Result DeadEnds Refusal). Lent r before after) ((refused-exactly image p.report k p.answer).1 g) p.buffer

  -- Where nothing is refused, the number is 128 and the count of the dead ends, and a buffer that has room holds their set.
  pub code-listed : Clear (report_conditions image)
      → (set : ℕ) × (count : ℕ) × Listed image set count × (m ≡ 128 + count) × (size ≤ length before → stored after 0 ≡ set)
  code-listed clear = told p.report p.answer p.code p.buffer
    where
      told : (r : Result DeadEnds Refusal) → ReportAnswer image r → m ≡ coded r → Lent r before after
          → (set : ℕ) × (count : ℕ) × Listed image set count × (m ≡ 128 + count) × (size ≤ length before → stored after 0 ≡ set)
      told (Ok d) q e f = (number d.set, d.count, q, e, λ room. stored_back (listed-fits q) room f)
      told (Err k) q e f = absurd (clear_none (report_conditions image) k clear q)

  -- A buffer that has no room for a set is always as it was,
  pub code-short : length before < size → after ≡ before
  code-short h = told p.report p.buffer
    where
      told : (r : Result DeadEnds Refusal) → Lent r before after → after ≡ before
      told (Ok d) f = f.none h
      told (Err k) f = f

  -- and so is what stands past the set in any buffer.
  pub code-rest : drop size after ≡ drop size before
  code-rest = told p.report p.buffer
    where
      told : (r : Result DeadEnds Refusal) → Lent r before after → drop size after ≡ drop size before
      told (Ok d) f =
          ⊎_elim (λ h. ap (drop size) (f.none h)) (λ h. ap (drop size) (f.room h)) (side? (length before) size)
      told (Err k) f = ap (drop size) f
