-- The services, as the page speaks of them: each has some answer and one only, and a refusal exactly when it is given.
--
--     serves                             a service, from when the contract holds of a refusal
--     given-either, given_by, given-as, apart_by
--                                        which refusal is given by two rows of conditions, and by conditions each of which names its own refusal
--     some-verdict, some-report          every question has a verdict, every image a report
--     check-given, steps_apart           the refusals of checking, by derivations and bytes; one at most of those of the steps
--     coded-answer                       the answer that a number codes
--     bytes-by, each-byte                rows of bytes
--     lined-once, line-given             the lines of the program
--
-- Assumes nothing.
use Prim.Native.Nat.{ℕ, zero, suc, ◌^◌, ◌<◌}
use native.Mathlib.Omega.{arith}
use mathlib.Core.Path.{◌≡◌, refl, sym, ap, ◌∙◌, subst}
use mathlib.Core.Bool.{Bool, true, false, not, ◌&&◌}
use mathlib.Core.List.{List, [], ◌∷◌, ◌++◌}
use mathlib.Core.Logic.Iff
use mathlib.Core.Logic.{◌↔◌, ◌⊎◌, inl, inr, ⊎_elim, ⊎_map}
use lib.Bits.{bit_or}
use lib.Count.{ones}
use lib.Dec.{T, eqb, ltb, lit<}
use lib.ListN.{length, drop}
use Rattle.std.specs.Prelude.{Some, Result, Ok, Err}
use Rattle.logic.specs.Test.{eu}
use Rattle.logic.proofs.Booleans.{T_and, differ}
use Rattle.logic.proofs.Duality.{holds-or-dual}
use Rattle.sets.specs.Member.{Has}
use Rattle.sets.specs.Number.{number as set_number}
use Rattle.sets.proofs.LawsBit.{bit-zero}
use Rattle.sets.proofs.LawsBytes.{Bytes as EachByte}
use Rattle.sets.proofs.LawsMember.{side?, has-or, has-power}
use Rattle.format.specs.Refusal.{number, Condition, Given, Clear}
use Rattle.format.specs.Image.{stages_of, graph_of, image_conditions}
use Rattle.format.specs.Table.{tree_of}
use Rattle.format.specs.Question.{question_conditions}
use Rattle.format.specs.declared.Refusal.{Refusal}
use Rattle.format.specs.declared.Refusal.TheVariants as R
use Rattle.format.proofs.Decision.{eq?, not?, either?, same-as, Decided, outcome, decided-both, image-decided, question-decided}
use Rattle.format.proofs.ReadableLaws.{readable}
use Rattle.format.proofs.RefusalLaws.{given-first, given-later, number-injective}
use Rattle.hand.specs.Environment.{started}
use Rattle.verdict.specs.Verdict.{VerdictAnswer}
use Rattle.verdict.specs.declared.answer.Verdict.{Verdict}
use Rattle.checker.specs.Check.{reading, outer_conditions, step_conditions, CheckAnswer, coded, CodedAnswer}
use Rattle.checker.specs.Certificate.{Bytes}
use Rattle.checker.proofs.CertificateLaws.{asked-readable, asked-below, asked-stands}
use Rattle.checker.proofs.Promise.{check-answers, check-once, coded-injective, check-refused, given-22, given-23, given-24, given-25}
use Rattle.deadends.specs.DeadEnd.{fired_conditions, report_conditions}
use Rattle.deadends.specs.Report.{ReportAnswer}
use Rattle.deadends.specs.declared.answer.DeadEnds.{DeadEnds}
use Rattle.deadends.proofs.DeadEndLaws.{Able, able-test, dead-unless, clear-image}
use Rattle.line.specs.Line.{refusal_line, Printed}
use Rattle.reply.specs.Reply.{Answers}
use Rattle.reply.proofs.AnswerLaws.{refusal-told}
use Rattle.reply.proofs.Promise.{line-once, reply-once, refused-exactly}
use Rattle.demands.specs.Services.{Serves, Left, Apart, step_refusals, check_refusals, ProgramGives}

-- A service that has some answer and one only, and whose contract holds of a refusal exactly when it is given.
pub serves : {A : Type 0} {Answers : A → Type 0} {refused : Refusal → A} {Gives : Refusal → Type 0} → (r : A) × Answers r
    → ((r s : A) → Answers r → Answers s → r ≡ s) → ((k : Refusal) → Answers (refused k) ↔ Gives k) → Serves Answers refused Gives
serves {A} {Answers} {refused} some one given = record {
  some = some;
  one = one;
  refuses = λ r p k. (λ e. (given k).0 (subst Answers e p), λ g. one r (refused k) p ((given k).1 g));
}

-- ---- conditions

-- What two rows of conditions give, the first gives, or the second where nothing of the first holds.
given-either : (cs ds : List Condition) (k : Refusal) → Given (cs ++ ds) k → Given cs k ⊎ (Clear cs × Given ds k)
given-either [] ds k g = inr (tt, g)
given-either (c ∷ cs) ds k (inl g) = inl (inl g)
given-either (c ∷ cs) ds k (inr g) = ⊎_map (λ h. inr (g.0, h)) (λ h. ((g.0, h.0), h.1)) (given-either cs ds k g.1)

-- P is said of a refusal by each condition that holds; and of the one that is given.
abbrev Each : (Refusal → Type 0 → Type 0) → List Condition → Type 0
Each P [] = Unit {0}
Each P (c ∷ cs) = P c.refusal c.holds × Each P cs

given_by : (P : Refusal → Type 0) (cs : List Condition) (k : Refusal) → Each (λ j A. A → P j) cs → Given cs k → P k
given_by P [] k each g = absurd g
given_by P (c ∷ cs) k each (inl g) = subst P (sym g.0) (each.0 g.1)
given_by P (c ∷ cs) k each (inr g) = given_by P cs k each.1 g.1

-- A refusal of the row is given where each condition holds exactly when the refusal is its own.
abbrev Names : List Condition → Refusal → Type 0
Names [] k = ⊥
Names (c ∷ cs) k = (k ≡ c.refusal) ⊎ Names cs k

given-names : (cs : List Condition) (k : Refusal) → Given cs k → Names cs k
given-names [] k g = absurd g
given-names (c ∷ cs) k (inl g) = inl g.0
given-names (c ∷ cs) k (inr g) = inr (given-names cs k g.1)

given-as : (cs : List Condition) (k : Refusal) → Each (λ j A. (k ≡ j) ↔ A) cs → Names cs k → Given cs k
given-as [] k each n = absurd n
given-as (c ∷ cs) k each n = by (eq? (number k) (number c.refusal)) n (λ m. given-as cs k each.1 m)
  where
    by : Dec (number k ≡ number c.refusal) → Names (c ∷ cs) k → (Names cs k → Given cs k) → Given (c ∷ cs) k
    by (yes e) n rest = let same = number-injective k c.refusal e in inl (same, each.0.0 same)
    by (no f) (inl e) rest = absurd (f (ap number e))
    by (no f) (inr n) rest = inr (λ h. f (ap number (each.0.1 h)), rest n)

-- Whether a number is none of a row of refusals, and whether these all differ.
abbrev none_of : ℕ → List Condition → Bool
none_of n [] = true
none_of n (c ∷ cs) = not (eqb n (number c.refusal)) && none_of n cs

abbrev all-differ : List Condition → Bool
all-differ [] = true
all-differ (c ∷ cs) = none_of (number c.refusal) cs && all-differ cs

-- Conditions of refusals that differ, each of which says P of its own, where P is said of one refusal at most, do not hold together.
module _ (P : Refusal → Type 0) (once : (j k : Refusal) → P j → P k → j ≡ k) where
  clear-by : (j : Refusal) → P j → (cs : List Condition) → Each (λ k A. A → P k) cs → T (none_of (number j) cs) → Clear cs
  clear-by j p [] each t = tt
  clear-by j p (c ∷ cs) each t =
      let u = (T_and (not (eqb (number j) (number c.refusal))) (none_of (number j) cs)).0 t in
      (λ h. differ (number j) (number c.refusal) u.0 (ap number (once j c.refusal p (each.0 h))), clear-by j p cs each.1 u.1)

  apart_by : (cs : List Condition) → Each (λ k A. A → P k) cs → T (all-differ cs) → Apart cs
  apart_by [] each t = tt
  apart_by (c ∷ cs) each t =
      let u = (T_and (none_of (number c.refusal) cs) (all-differ cs)).0 t in
      (λ h. clear-by c.refusal (each.0 h) cs each.1 u.0, apart_by cs each.1 u.1)

-- ---- the verdict

-- Every question has a verdict: nothing is refused, and the goal holds or its dual does; or a refusal is given.
pub some-verdict : (image table : List ℕ) (goal start : ℕ) → (r : Result Verdict Refusal) × VerdictAnswer image table goal start r
some-verdict image table goal start = by (outcome (question_conditions image table goal start) (question-decided image table goal start))
  where
    by : ((k : Refusal) × Given (question_conditions image table goal start) k) ⊎ Clear (question_conditions image table goal start)
        → (r : Result Verdict Refusal) × VerdictAnswer image table goal start r
    by (inl g) = (Err g.0, g.1)
    by (inr clear) =
        ⊎_elim
        (λ h. (Ok Verdict.Yes, record { clear = clear; says = h }))
        (λ h. (Ok Verdict.No, record { clear = clear; says = h }))
        (holds-or-dual (asked-readable image table goal start clear) (tree_of image table goal) (started start)
        (asked-below image table goal start clear 0) (asked-stands image table goal start clear))

-- ---- the report

-- There is a set of the stages below n with a property that is decided.
gathered : (P : ℕ → Type 0) (n : ℕ) → ((s : ℕ) → s < n → Dec (P s)) → (set : ℕ) × ((s : ℕ) → Has set s ↔ ((s < n) × P s))
gathered P zero p = (0, λ s. (λ h. absurd (omega (arith, bit-zero s, h)), λ u. absurd (omega (arith, u.0))))
gathered P (suc n) p = more (p n (omega arith)) (gathered P n (λ s h. p s (omega arith)))
  where
    more : Dec (P n) → (set : ℕ) × ((s : ℕ) → Has set s ↔ ((s < n) × P s)) → (set : ℕ) × ((s : ℕ) → Has set s ↔ ((s < suc n) × P s))
    more (yes t) g = (
      bit_or g.0 (2 ^ n),
      λ s. (
        λ h. ⊎_elim (λ i. let u = (g.1 s).0 i in (omega (arith, u.0), u.1))
            (λ i. let e = (has-power n s).0 i in (omega (arith, e), subst P (sym e) t)) ((has-or g.0 (2 ^ n) s).0 h),
        λ u. (has-or g.0 (2 ^ n) s).1
            (⊎_elim (λ l. inl ((g.1 s).1 (l, u.1))) (λ l. inr ((has-power n s).1 (omega (arith, l, u.0)))) (side? s n)),
      ),
    )
    more (no f) g = (
      g.0,
      λ s. (
        λ h. let u = (g.1 s).0 h in (omega (arith, u.0), u.1),
        λ u. ⊎_elim (λ l. (g.1 s).1 (l, u.1)) (λ l. absurd (f (subst P (omega (arith, l, u.0)) u.1))) (side? s n),
      ),
    )

T? : (b : Bool) → Dec (T b)
T? true = yes tt
T? false = no (λ t. t)

-- Every image has a report: nothing is refused, and the dead ends are gathered; or a refusal is given.
pub some-report : (image : List ℕ) → (r : Result DeadEnds Refusal) × ReportAnswer image r
unfolding set_number
some-report image = by (outcome (report_conditions image) decided)
  where
    decided : Decided (report_conditions image)
    decided = decided-both (image_conditions image) (fired_conditions image) (image-decided image) (either? (eq? _ 0) (not? (eq? _ 1)), tt)

    by : ((k : Refusal) × Given (report_conditions image) k) ⊎ Clear (report_conditions image) → (r : Result DeadEnds Refusal) × ReportAnswer image r
    by (inl g) = (Err g.0, g.1)
    by (inr clear) =
        let G = graph_of image in
        let able? : (s : ℕ) → s < stages_of image → Dec (Able G s → ⊥) = λ s h.
        let says = able-test (readable image (clear-image clear)) (λ t. true) (G.one 0) (λ t i. tt) (λ t i. Iff.rfl) s h in
        not? (same-as says.0 says.1 (T? (eu G (λ t. true) (G.one 0) s))) in
        let g = gathered (λ s. Able G s → ⊥) (stages_of image) able? in
        (Ok (record { set = record { bits = g.0 }; count = ones g.0 }), record { clear = clear; dead = dead-unless G g.0 g.1; many = refl })

-- ---- checking

module _ (image table certificate : List ℕ) (goal start : ℕ) where
  abbrev outer : List Condition
  outer = outer_conditions image table certificate goal start

  abbrev inner : List Condition
  inner = step_conditions certificate (reading image table certificate goal start)

  module _ (r : Result ℕ Refusal) (p : CheckAnswer image table certificate goal start r) (clear : Clear outer) where
    -- Where neither the question nor the header is refused, each of 22 to 25 is the answer exactly when its condition holds.
    each_step : Each (λ j A. (r ≡ Err j) ↔ A) (step_refusals image table certificate goal start)
    each_step = (
      given-22 image table certificate goal start clear r p,
      (
        given-23 image table certificate goal start clear r p,
        (given-24 image table certificate goal start clear r p, (given-25 image table certificate goal start clear r p, tt)),
      ),
    )

  -- Each of them says so of its own refusal.
  told-by : (r : Result ℕ Refusal) (cs : List Condition) → Each (λ j A. (r ≡ Err j) ↔ A) cs → Each (λ j A. A → r ≡ Err j) cs
  told-by r [] each = tt
  told-by r (c ∷ cs) each = (each.0.1, told-by r cs each.1)

  -- What the contract of `check` gives, by how far the steps are read, is what is given by derivations and bytes.
  pub check-given : (k : Refusal)
      → CheckAnswer image table certificate goal start (Err k) ↔ Given (check_refusals image table certificate goal start) k
  check-given k = (to, from)
    where
      steps : List Condition
      steps = step_refusals image table certificate goal start

      named : {r : Result ℕ Refusal} (cs : List Condition) → Each (λ j A. (r ≡ Err j) ↔ A) cs → r ≡ Err k → Each (λ j A. (k ≡ j) ↔ A) cs
      named [] each e = tt
      named {r} (c ∷ cs) each e = (
        (λ f. each.0.0 (e ∙ ap Err f), λ h. let f : Err k ≡ Err c.refusal = sym e ∙ each.0.1 h in cc),
        named cs each.1 e,
      )

      to : CheckAnswer image table certificate goal start (Err k) → Given (outer ++ steps) k
      to p = ⊎_elim (given-first outer steps k)
          (λ g. given-later outer steps k g.0
          (given-as steps k (named steps (each_step (Err k) p g.0) refl) (given-names inner k g.1)))
          (given-either outer inner k p)

      answered : (r : Result ℕ Refusal) → CheckAnswer image table certificate goal start r → Given (outer ++ steps) k → r ≡ Err k
      answered r p g =
          ⊎_elim (λ h. (check-refused image table certificate goal start r k p).1 (given-first outer inner k h))
          (λ h. given_by (λ j. r ≡ Err j) steps k (told-by r steps (each_step r p h.0)) h.1) (given-either outer steps k g)

      from : Given (outer ++ steps) k → CheckAnswer image table certificate goal start (Err k)
      from g =
          let a = check-answers image table certificate goal start in
          subst (CheckAnswer image table certificate goal start) (answered a.0 a.1 g) a.1

  -- Of 22 to 25 one at most is given, where they are come to.
  pub steps_apart : Clear outer → Apart (step_refusals image table certificate goal start)
  steps_apart clear =
      let a = check-answers image table certificate goal start in
      apart_by (λ j. a.0 ≡ Err j) (λ j k e f. let same : Err j ≡ Err k = sym e ∙ f in cc)
      (step_refusals image table certificate goal start) (told-by a.0 (step_refusals image table certificate goal start) (each_step a.0 a.1 clear)) tt

  -- From the number of an answer the answer is told.
  pub coded-answer : (n : ℕ) → CodedAnswer image table certificate goal start n → (r : Result ℕ Refusal)
      → (n ≡ coded r) ↔ CheckAnswer image table certificate goal start r
  coded-answer n c r = (
    λ e. subst (CheckAnswer image table certificate goal start) (coded-injective c.answer r (sym c.code ∙ e)) c.says,
    λ p. c.code ∙ ap coded (check-once image table certificate goal start c.answer r c.says p),
  )

-- ---- the program

-- A row of which each byte is tested is one of bytes.
abbrev pub small : List ℕ → Bool
small [] = true
small (b ∷ bs) = ltb b 256 && small bs

pub bytes-by : (l : List ℕ) → T (small l) → Bytes l
bytes-by [] t = tt
bytes-by (b ∷ bs) t = let u = (T_and (ltb b 256) (small bs)).0 t in (lit< u.0, bytes-by bs u.1)

-- A row of bytes has a byte at each place.
pub each-byte : (bytes : List ℕ) → Bytes bytes → EachByte bytes
each-byte [] s i = omega arith
each-byte (b ∷ bs) s zero = s.0
each-byte (b ∷ bs) s (suc i) = each-byte bs s.1 i

module _ (input before : List ℕ) where
  abbrev Lines : Left (List ℕ) → Type 0
  Lines w = Answers input before w.buffer w.answer

  -- Two answers of the program to one input are one: the line, and what the buffer holds.
  pub lined-once : (v w : Left (List ℕ)) → Lines v → Lines w → v ≡ w
  lined-once v w p q =
      let line = line-once before before v.buffer w.buffer v.answer w.answer refl p q in
      let out = v.answer in
      let whole : Printed v.answer out (v.answer ++ drop (length v.answer) out) (Some (length v.answer)) =
      record { whole = λ h. (refl, refl); nothing = λ h. absurd (omega (arith, h)) } in
      let one = reply-once before v.buffer w.buffer out _ _ _ _ (record { line = v.answer; answers = p; prints = whole })
      (record { line = v.answer; answers = subst (Answers input before w.buffer) (sym line) q; prints = whole }) in
      λ i. record { answer = line i; buffer = one.1 i }

  -- The line of a refusal is the answer exactly when the refusal is given.
  pub line-given : (k : Refusal) → Answers input before before (refusal_line k) ↔ ProgramGives input before k
  line-given k = (λ a. given a a, answered)
    where
      given : Answers input before before (refusal_line k) → Answers input before before (refusal_line k) → ProgramGives input before k
      given a (inl p) = inl (refusal-told k R.NotOfShape p.line_is, p.shapeless)
      given a (inr (inl p)) = inr (p.parts, (refused-exactly a p.parts k).0 refl)
      given a (inr (inr p)) = inr (p.parts, (refused-exactly a p.parts k).0 refl)

      answered : ProgramGives input before k → Answers input before before (refusal_line k)
      answered (inl g) = inl (record { shapeless = g.1; line_is = ap refusal_line g.0; kept = refl })
      answered (inr g) = inr (inl (record { parts = g.0; refusal = k; given = g.1; line_is = refl; kept = refl }))
