-- The promise of the program's answer. An input has one line, and the line tells what it is: 16 exactly when the input is not of the program's shape or
-- over its limit, another refusal exactly when writing gives it, `yes` exactly when nothing is refused and the goal holds over paths, and `no` exactly
-- when nothing is refused and its dual does. With the program's own sizes the line always has room.
--
--     line-there, line-once            every input has a line, and one only, whatever stood in the certificate buffer
--     reply-once                       one result, and one pair of buffers
--     line-fits-always, reply-whole    the program's own sizes: every line has room, so that its length comes back
--     sixteen-exactly, refused-exactly, certified-exactly
--                                      when each line is printed
--     yes-exactly, no-exactly          what `yes` and `no` mean
--     shown-accepted                   the checker accepts the bytes that a line shows, for the side that it says
--
-- Assumes nothing.
use Prim.Native.Nat.{ℕ, ◌≤◌, ◌<◌}
use native.Mathlib.Omega.{arith}
use mathlib.Core.Path.{◌≡◌, refl, sym, ap, ap₂, ◌∙◌, subst, subst₂}
use mathlib.Core.List.{List, ◌++◌}
use mathlib.Core.Logic.{◌↔◌, inl, inr, ⊎_elim}
use lib.ListN.{length, drop}
use Rattle.std.specs.Prelude.{Option, Some, Ok}
use Rattle.model.specs.Formula.{dual}
use Rattle.logic.specs.Meaning.{Holds}
use Rattle.sets.proofs.LawsBytes.{Bytes}
use Rattle.format.specs.Refusal.{Given, Clear}
use Rattle.format.specs.Image.{graph_of}
use Rattle.format.specs.Table.{tree_of}
use Rattle.format.specs.Question.{question_conditions}
use Rattle.format.specs.declared.Refusal.{Refusal}
use Rattle.format.specs.declared.Refusal.TheVariants as R
use Rattle.format.proofs.Decision.{outcome}
use Rattle.format.proofs.RefusalLaws.{given-one, clear_none, clear_first, clear_later}
use Rattle.hand.specs.Environment.{started}
use Rattle.hand.specs.Side.{sided}
use Rattle.checker.specs.Check.{CheckAnswer}
use Rattle.writer.specs.Write.{room_conditions}
use Rattle.writer.proofs.Promise.{decided, side-exactly, certificate-accepted}
use Rattle.line.specs.Front.{Front}
use Rattle.line.specs.Framing.{OfShape}
use Rattle.line.specs.Line.{yes_word, no_word, refused_word, side_word, line_of, refusal_line, certificate_buffer, longest, Printed}
use Rattle.line.proofs.FramingLaws.{of-shape?}
use Rattle.line.proofs.Promise.{printed-once, line-some, refusal-some, line-fits, refusal-fits}
use Rattle.reply.specs.Reply.{refusals_of, side_of, certificate_of, AnswersRefusal, AnswersCertificate, Answers, Replied, Says}
use Rattle.reply.proofs.AnswerLaws.{refusals-moved, certificate-same, side_same, never-sixteen}
use Rattle.reply.proofs.AnswerLaws.{line-says, refusal-says, side-or-refused, side-told, side-small, line-told, refusal-told}

-- ---- one line

module _ {input : List ℕ} where
  -- A refusal is never given with a certificate.
  opposed : {b c l m x y : List ℕ} {A : Type 0} → length b ≡ length c → AnswersRefusal input b x l → AnswersCertificate input c y m → A
  opposed {b} {c} e r a =
      absurd
      (clear_none (refusals_of a.parts c) r.refusal a.clear
      (refusals-moved (λ cs. Given cs r.refusal) r.parts a.parts b c e r.given))

  -- Two answers to one input have one line, whatever stood in their certificate buffers, if these are of one length; and from one buffer they leave one.
  answer-once : (b c x y l m : List ℕ) → length b ≡ length c → Answers input b x l → Answers input c y m → (l ≡ m) × (b ≡ c → x ≡ y)
  answer-once b c x y l m e (inl p) (inl q) = (p.line_is ∙ sym q.line_is, λ s. p.kept ∙ s ∙ sym q.kept)
  answer-once b c x y l m e (inl p) (inr (inl q)) = absurd (p.shapeless q.parts)
  answer-once b c x y l m e (inl p) (inr (inr q)) = absurd (p.shapeless q.parts)
  answer-once b c x y l m e (inr (inl p)) (inl q) = absurd (q.shapeless p.parts)
  answer-once b c x y l m e (inr (inr p)) (inl q) = absurd (q.shapeless p.parts)
  answer-once b c x y l m e (inr (inl p)) (inr (inr q)) = opposed e p q
  answer-once b c x y l m e (inr (inr p)) (inr (inl q)) = opposed (sym e) q p
  answer-once b c x y l m e (inr (inl p)) (inr (inl q)) =
      let same : p.refusal ≡ q.refusal =
      given-one (refusals_of q.parts c) p.refusal q.refusal
      (refusals-moved (λ cs. Given cs p.refusal) p.parts q.parts b c e p.given) q.given in
      (p.line_is ∙ ap refusal_line same ∙ sym q.line_is, λ s. p.kept ∙ s ∙ sym q.kept)
  answer-once b c x y l m e (inr (inr p)) (inr (inr q)) =
      let same = certificate-same p.parts q.parts in (
        p.line_is ∙ ap₂ line_of (side_same p.parts q.parts) same ∙ sym q.line_is,
        λ s. p.front ∙ ap₂ (λ (bytes before : List ℕ). bytes ++ drop (length bytes) before) same s ∙ sym q.front,
      )

  -- An input has one line only,
  pub line-once : (b c x y l m : List ℕ) → length b ≡ length c → Answers input b x l → Answers input c y m → l ≡ m
  line-once b c x y l m e p q = (answer-once b c x y l m e p q).0

  -- and two results that meet the contract are one, with what both buffers hold.
  pub reply-once : (before a b out p q : List ℕ) (r s : Option ℕ) → Replied input before a out p r → Replied input before b out q s
      → (r ≡ s) × (a ≡ b) × (p ≡ q)
  reply-once before a b out p q r s x y =
      let one = answer-once before before a b x.line y.line refl x.answers y.answers in
      let printed = printed-once p q r s (subst (λ (l : List ℕ). Printed l out p r) one.0 x.prints) y.prints in
      (printed.0, one.1 refl, printed.1)

-- Every input has one: whether it has parts, and what writing gives for them, is computed.
pub line-there : (input before : List ℕ) → Bytes input → (after : List ℕ) × (line : List ℕ) × Answers input before after line
line-there input before small = shaped (of-shape? input small)
  where
    shaped : Dec (OfShape input) → (after : List ℕ) × (line : List ℕ) × Answers input before after line
    shaped (no none) = (before, refusal_line R.NotOfShape, inl (record { shapeless = none; line_is = refl; kept = refl }))
    shaped (yes o) =
        ⊎_elim
        (λ g. (
          before,
          refusal_line g.0,
          inr (inl (record { parts = o; refusal = g.0; given = g.1; line_is = refl; kept = refl })),
        ))
        (λ c. (
          certificate_of o ++ drop (length (certificate_of o)) before,
          line_of (side_of o) (certificate_of o),
          inr (inr (record { parts = o; clear = c; line_is = refl; front = refl })),
        ))
        (outcome (refusals_of o before) (decided o.image o.table o.goal o.start before))

-- ---- the program's own sizes

module _ {input before after line : List ℕ} where
  -- Every line is of some length,
  line-not-empty : Answers input before after line → 0 < length line
  line-not-empty (inl p) = subst (λ (l : List ℕ). 0 < length l) (sym p.line_is) (refusal-some R.NotOfShape)
  line-not-empty (inr (inl p)) = subst (λ (l : List ℕ). 0 < length l) (sym p.line_is) (refusal-some p.refusal)
  line-not-empty (inr (inr p)) = subst (λ (l : List ℕ). 0 < length l) (sym p.line_is) (line-some (side_of p.parts) (certificate_of p.parts))

  -- and with the program's certificate buffer it has room in its line buffer.
  pub line-fits-always : length before ≤ certificate_buffer → Answers input before after line → length line ≤ longest
  line-fits-always h (inl p) = omega (arith, ap length p.line_is, refusal-fits R.NotOfShape)
  line-fits-always h (inr (inl p)) = omega (arith, ap length p.line_is, refusal-fits p.refusal)
  line-fits-always h (inr (inr p)) =
      let o = p.parts in
      let room =
      (clear_later (question_conditions o.image o.table o.goal o.start) (room_conditions o.image o.table o.goal o.start before)
      p.clear).0 in
      omega (arith, ap length p.line_is, line-fits (side_of o) (certificate_of o) (omega (arith, room)))

-- So the whole line is printed, which is not empty.
pub reply-whole : {input before after out printed : List ℕ} {r : Option ℕ} → length before ≤ certificate_buffer → longest ≤ length out
    → (a : Replied input before after out printed r) → (0 < length a.line) × (r ≡ Some (length a.line)) × Front a.line out printed
reply-whole h room a =
    let whole = a.prints.whole (omega (arith, line-fits-always h a.answers)) in
    (line-not-empty a.answers, whole.0, whole.1)

-- ---- when each line is printed

module _ {input before after line : List ℕ} (a : Answers input before after line) where
  -- An answer with this line is the one that was given.
  given-line : (x l : List ℕ) → Answers input before x l → line ≡ l
  given-line x l q = line-once before before after x line l refl a q

  -- A certificate's line is no refusal's.
  apart : (p : AnswersCertificate input before after line) (k : Refusal) → line ≡ refusal_line k → ⊥
  apart p k e =
      side-or-refused (side_of p.parts) (line-says (side_of p.parts) (certificate_of p.parts))
      (subst (Says refused_word) (sym e ∙ p.line_is) (refusal-says k))

  -- 16 exactly when the input is not of the program's shape or over its limit.
  pub sixteen-exactly : (line ≡ refusal_line R.NotOfShape) ↔ (OfShape input → ⊥)
  sixteen-exactly = (shapeless a, λ none. given-line before (refusal_line R.NotOfShape) (inl (record { shapeless = none; line_is = refl; kept = refl })))
    where
      shapeless : Answers input before after line → line ≡ refusal_line R.NotOfShape → OfShape input → ⊥
      shapeless (inl p) e o = p.shapeless o
      shapeless (inr (inl p)) e o =
          never-sixteen p.parts before
          (subst (Given (refusals_of p.parts before)) (refusal-told p.refusal R.NotOfShape (sym p.line_is ∙ e)) p.given)
      shapeless (inr (inr p)) e o = apart p R.NotOfShape e

  module _ (o : OfShape input) where
    -- Another refusal exactly when writing gives it.
    pub refused-exactly : (k : Refusal) → (line ≡ refusal_line k) ↔ Given (refusals_of o before) k
    refused-exactly k = (
      given a,
      λ g. given-line before (refusal_line k) (inr (inl (record { parts = o; refusal = k; given = g; line_is = refl; kept = refl }))),
    )
      where
        given : Answers input before after line → line ≡ refusal_line k → Given (refusals_of o before) k
        given (inl p) e = absurd (p.shapeless o)
        given (inr (inl p)) e =
            subst (Given (refusals_of o before)) (refusal-told p.refusal k (sym p.line_is ∙ e))
            (refusals-moved (λ cs. Given cs p.refusal) p.parts o before before refl p.given)
        given (inr (inr p)) e = absurd (apart p k e)

    -- The line of the certificate exactly when nothing is refused.
    pub certified-exactly : (line ≡ line_of (side_of o) (certificate_of o)) ↔ Clear (refusals_of o before)
    certified-exactly = (
      clear a,
      λ c. given-line (certificate_of o ++ drop (length (certificate_of o)) before) (line_of (side_of o) (certificate_of o))
          (inr (inr (record { parts = o; clear = c; line_is = refl; front = refl }))),
    )
      where
        clear : Answers input before after line → line ≡ line_of (side_of o) (certificate_of o) → Clear (refusals_of o before)
        clear (inl p) e = absurd (p.shapeless o)
        clear (inr (inl p)) e =
            absurd
            (side-or-refused (side_of o) (subst (Says (side_word (side_of o))) (sym e) (line-says (side_of o) (certificate_of o)))
            (subst (Says refused_word) (sym p.line_is) (refusal-says p.refusal)))
        clear (inr (inr p)) e = refusals-moved (λ cs. Clear cs) p.parts o before before refl p.clear

    -- ---- what the first word means

    -- A side of the goal, over paths, where nothing is refused.
    abbrev SideHolds : ℕ → Type 0
    SideHolds s = Clear (refusals_of o before) × Holds (graph_of o.image) (sided s (tree_of o.image o.table o.goal)) (started o.start)

    asked : Clear (refusals_of o before) → Clear (question_conditions o.image o.table o.goal o.start)
    asked =
        clear_first (question_conditions o.image o.table o.goal o.start) (room_conditions o.image o.table o.goal o.start before)

    side-word : (s : ℕ) → s ≤ 1 → Says (side_word s) line ↔ SideHolds s
    side-word s h = (holds a, says)
      where
        exactly : Clear (refusals_of o before)
            → (s ≡ side_of o) ↔ Holds (graph_of o.image) (sided s (tree_of o.image o.table o.goal)) (started o.start)
        exactly c = side-exactly o.image o.table o.goal o.start (asked c) s h

        holds : Answers input before after line → Says (side_word s) line → SideHolds s
        holds (inl p) w = absurd (p.shapeless o)
        holds (inr (inl p)) w = absurd (side-or-refused s w (subst (Says refused_word) (sym p.line_is) (refusal-says p.refusal)))
        holds (inr (inr p)) w =
            let c = refusals-moved (λ cs. Clear cs) p.parts o before before refl p.clear in
            let told =
            side-told s (side_of p.parts) h (side-small p.parts)
            (subst (Says (side_word s)) p.line_is w)
            (line-says (side_of p.parts) (certificate_of p.parts)) in
            (c, (exactly c).0 (told ∙ side_same p.parts o))

        says : SideHolds s → Says (side_word s) line
        says p =
            subst (Says (side_word s)) (sym (certified-exactly.1 p.0))
            (subst (λ (k : ℕ). Says (side_word s) (line_of k (certificate_of o))) ((exactly p.0).1 p.1) (line-says s (certificate_of o)))

    -- `yes` exactly when nothing is refused and the goal holds at the start,
    pub yes-exactly : Says yes_word line
        ↔ (Clear (refusals_of o before) × Holds (graph_of o.image) (tree_of o.image o.table o.goal) (started o.start))
    yes-exactly = side-word 0 (omega arith)

    -- and `no` exactly when nothing is refused and its dual does.
    pub no-exactly : Says no_word line
        ↔ (Clear (refusals_of o before) × Holds (graph_of o.image) (dual (tree_of o.image o.table o.goal)) (started o.start))
    no-exactly = side-word 1 (omega arith)

    -- Whatever side and bytes a line shows, the checker accepts these bytes for that side.
    pub shown-accepted : (s : ℕ) (bytes : List ℕ) → s ≤ 1 → line ≡ line_of s bytes
        → CheckAnswer o.image o.table bytes o.goal o.start (Ok s)
    shown-accepted s bytes h e =
        let clear = ((side-word s h).0 (subst (Says (side_word s)) (sym e) (line-says s bytes))).0 in
        let told = line-told s (side_of o) bytes (certificate_of o) h (side-small o) (sym e ∙ certified-exactly.1 clear) in
        subst₂ (λ (k : ℕ) (l : List ℕ). CheckAnswer o.image o.table l o.goal o.start (Ok k)) (sym told.0) (sym told.1)
        (certificate-accepted o.image o.table o.goal o.start (asked clear))
