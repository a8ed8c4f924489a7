-- The answers to one input, and what their lines tell.
--
--     moved, refusals-moved            the parts of one input are one, and of a certificate buffer only the length counts
--     certificate-same, side_same      so they have one certificate and one side
--     never-sixteen                    writing does not give 16
--     line-says, refusal-says          the first word of a line
--     side-or-refused                  so a line tells whether it is a certificate's or a refusal's,
--     side-told, line-told             of which side and with which bytes,
--     refusal-told                     and of which refusal
--
-- Assumes nothing.
use Prim.Native.Nat.{ℕ, zero, suc, ◌-◌, ◌≤◌, ◌<◌}
use native.Mathlib.Omega.{arith}
use mathlib.Core.Path.{◌≡◌, refl, sym, ap, ap₂, ◌∙◌, subst}
use mathlib.Core.Bool.{Bool, true, false}
use mathlib.Core.List.{List, [], ◌∷◌, ◌++◌}
use mathlib.Core.Logic.{inl, inr}
use lib.Dec.{T, ltb, lit<}
use lib.ListN.{length, take, drop, get_or, length-append}
use lib.Seq.{take_at}
use Rattle.format.specs.Refusal.{number, Condition, Given}
use Rattle.format.specs.Question.{question_conditions}
use Rattle.format.specs.declared.Refusal.{Refusal}
use Rattle.format.specs.declared.Refusal.TheVariants as R
use Rattle.format.proofs.RefusalLaws.{number-injective}
use Rattle.verdict.specs.Verdict.{goal_test}
use Rattle.writer.specs.Write.{side_by, side_for, certificate}
use Rattle.line.specs.Framing.{OfShape}
use Rattle.line.specs.Text.{Digits, worth, decimal, hex}
use Rattle.line.specs.Line.{space, line_feed, side_word, refused_word, line_of, refusal_line}
use Rattle.line.proofs.FramingLaws.{framed-once}
use Rattle.line.proofs.TextLaws.{decimal-right, hex-injective}
use Rattle.reply.specs.Reply.{refusals_of, side_of, certificate_of, Says}

-- ---- the parts of one input

-- What holds of parts of an input holds of any others, since they are the same.
pub moved : {input : List ℕ} (P : List ℕ → List ℕ → ℕ → ℕ → Type 0) (o p : OfShape input)
    → P o.image o.table o.goal o.start → P p.image p.table p.goal p.start
moved P o p h =
    let same = framed-once o.parts p.parts in
    subst (λ (x : List ℕ). P x p.table p.goal p.start) same.0
    (subst (λ (x : List ℕ). P o.image x p.goal p.start) same.1
    (subst (λ (x : ℕ). P o.image o.table x p.start) same.2 (subst (λ (x : ℕ). P o.image o.table o.goal x) same.3 h)))

-- The refusals of writing into so many bytes.
abbrev pub refusals_in : List ℕ → List ℕ → ℕ → ℕ → ℕ → List Condition
refusals_in image table goal start room =
    question_conditions image table goal start
    ++ (record { refusal = R.BufferTooShort; holds = room < length (certificate image table goal start) } ∷ [])

-- So the refusals of one input are the same with all buffers of one length,
pub refusals-moved : {input : List ℕ} (P : List Condition → Type 0) (o p : OfShape input) (b c : List ℕ) → length b ≡ length c
    → P (refusals_of o b) → P (refusals_of p c)
refusals-moved P o p b c e h =
    moved (λ image table goal start. P (refusals_in image table goal start (length c))) o p
    (subst (λ (room : ℕ). P (refusals_in o.image o.table o.goal o.start room)) e h)

-- and it has one certificate, and one line of it.
pub certificate-same : {input : List ℕ} (o p : OfShape input) → certificate_of o ≡ certificate_of p
certificate-same o p = moved (λ image table goal start. certificate_of o ≡ certificate image table goal start) o p refl

pub side_same : {input : List ℕ} (o p : OfShape input) → side_of o ≡ side_of p
side_same o p = moved (λ image table goal start. side_of o ≡ side_for image table goal start) o p refl

-- ---- the refusals of writing

-- Every refusal of a row of conditions has a number below n.
abbrev Under : ℕ → List Condition → Type 0
Under n [] = Unit {0}
Under n (c ∷ cs) = T (ltb (number c.refusal) n) × Under n cs

given-under : (n : ℕ) (cs : List Condition) (k : Refusal) → Under n cs → Given cs k → number k < n
given-under n [] k u g = absurd g
given-under n (c ∷ cs) k u (inl g) = subst (λ (j : Refusal). number j < n) (sym g.0) (lit< u.0)
given-under n (c ∷ cs) k u (inr g) = given-under n cs k u.1 g.1

-- Writing gives 1 to 14, so not 16.
pub never-sixteen : {input : List ℕ} (o : OfShape input) (buffer : List ℕ) → Given (refusals_of o buffer) R.NotOfShape → ⊥
never-sixteen o buffer g =
    let under : 16 < 15 =
    given-under 15 (refusals_of o buffer) R.NotOfShape (tt, (tt, (tt, (tt, (tt, (tt, (tt, (tt, (tt, (tt, (tt, (tt, (tt, (tt, tt)))))))))))))) g in
    omega arith

-- ---- what a line tells

-- The first words of the two kinds of lines.
pub line-says : (s : ℕ) (bytes : List ℕ) → Says (side_word s) (line_of s bytes)
line-says s bytes = record { rest = decimal (length bytes) ++ (space ∷ (hex bytes ++ (line_feed ∷ []))); is = refl }

pub refusal-says : (k : Refusal) → Says refused_word (refusal_line k)
refusal-says k = record { rest = decimal (number k) ++ (line_feed ∷ []); is = refl }

-- Words that one line begins with have one first letter.
letters : {a b : ℕ} {v w line : List ℕ} → Says (a ∷ v) line → Says (b ∷ w) line → a ≡ b
letters p q = ap (λ (l : List ℕ). get_or l 0 0) (sym p.is ∙ q.is)

-- So the side is told from a refusal,
pub side-or-refused : (s : ℕ) {line : List ℕ} → Says (side_word s) line → Says refused_word line → ⊥
side-or-refused zero p q = omega (arith, letters p q)
side-or-refused (suc s) p q = omega (arith, letters p q)

-- and one side from the other.
pub side-told : (s t : ℕ) {line : List ℕ} → s ≤ 1 → t ≤ 1 → Says (side_word s) line → Says (side_word t) line → s ≡ t
side-told zero zero h l p q = refl
side-told zero (suc t) h l p q = absurd (omega (arith, letters p q))
side-told (suc s) zero h l p q = absurd (omega (arith, letters p q))
side-told (suc s) (suc t) h l p q = omega arith

-- There are two.
small : (b : Bool) → side_by b ≤ 1
small true = omega arith
small false = omega arith

pub side-small : {input : List ℕ} (o : OfShape input) → side_of o ≤ 1
side-small o = small (goal_test o.image o.table o.goal o.start)

-- What stands before the line feed.
fed : (a b : List ℕ) → a ++ (line_feed ∷ []) ≡ b ++ (line_feed ∷ []) → a ≡ b
fed a b e =
    sym (before-feed a) ∙ ap (λ (l : List ℕ). take (length l - 1) l) e ∙ before-feed b
  where
    before-feed : (l : List ℕ) → take (length (l ++ (line_feed ∷ [])) - 1) (l ++ (line_feed ∷ [])) ≡ l
    before-feed l = take_at l (line_feed ∷ []) (length (l ++ (line_feed ∷ [])) - 1) (omega (arith, length-append l (line_feed ∷ [])))

-- So a refusal's line tells the refusal.
pub refusal-told : (j k : Refusal) → refusal_line j ≡ refusal_line k → j ≡ k
refusal-told j k e =
    let same = fed (decimal (number j)) (decimal (number k)) (ap (drop 8) e) in
    number-injective j k (sym (decimal-right (number j)).is ∙ ap worth same ∙ (decimal-right (number k)).is)

-- Digits end at the first space.
digits-end : (a b x y : List ℕ) → Digits a → Digits b → a ++ (space ∷ x) ≡ b ++ (space ∷ y) → (a ≡ b) × (x ≡ y)
digits-end [] [] x y p q e = (refl, ap (drop 1) e)
digits-end [] (d ∷ b) x y p q e = absurd (omega (arith, ap (λ (l : List ℕ). get_or l 0 0) e, q.0))
digits-end (c ∷ a) [] x y p q e = absurd (omega (arith, ap (λ (l : List ℕ). get_or l 0 0) e, p.0))
digits-end (c ∷ a) (d ∷ b) x y p q e =
    let rest = digits-end a b x y p.2 q.2 (ap (drop 1) e) in
    (ap₂ {C = List ℕ} (λ (n : ℕ) (l : List ℕ). n ∷ l) (ap (λ (l : List ℕ). get_or l 0 0) e) rest.0, rest.1)

-- The line of a certificate tells its bytes, where the side is told.
bytes-told : (s : ℕ) (b c : List ℕ) → line_of s b ≡ line_of s c → b ≡ c
bytes-told s b c e =
    hex-injective b c
    (fed (hex b) (hex c)
    (digits-end (decimal (length b)) (decimal (length c)) (hex b ++ (line_feed ∷ [])) (hex c ++ (line_feed ∷ [])) (decimal-right (length b)).digits
    (decimal-right (length c)).digits (behind s b ∙ ap (drop (suc (length (side_word s)))) e ∙ sym (behind s c))).1)
  where
    behind : (t : ℕ) (l : List ℕ)
        → decimal (length l) ++ (space ∷ (hex l ++ (line_feed ∷ []))) ≡ drop (suc (length (side_word t))) (line_of t l)
    behind zero l = refl
    behind (suc t) l = refl

-- So it tells both.
pub line-told : (s t : ℕ) (b c : List ℕ) → s ≤ 1 → t ≤ 1 → line_of s b ≡ line_of t c → (s ≡ t) × (b ≡ c)
line-told s t b c h l e =
    let same = side-told s t h l (line-says s b) (subst (Says (side_word t)) (sym e) (line-says t c)) in
    (same, bytes-told t b c (ap (λ (k : ℕ). line_of k b) (sym same) ∙ e))
