-- Certificates as bytes, and which of them are accepted.
--
--     whole-certificate        a header that fits and names the question, and the bytes after it, are the certificate
--     header-fits, header-names
--                              the header of a side does both
--     asked-readable, asked-small, asked-below, asked-stands
--                              what a question that is not refused has
--     accepted-certifies, every-certificate, certifies-accepted
--                              a certificate is accepted exactly when it is that of a derivation
--     certificate-bytes        and such a certificate is a row of bytes
use Prim.Native.Nat.{ℕ, zero, suc, ◌≤◌, ◌<◌}
use native.Mathlib.Omega.{arith}
use mathlib.Core.Path.{◌≡◌, refl, sym, subst, ◌∙◌}
use mathlib.Core.Bool.{Bool, true, false}
use mathlib.Core.List.{List, [], ◌∷◌, ◌++◌}
use lib.Dec.{eqb, lit<}
use lib.ListN.{length, get_or, drop}
use Rattle.model.specs.Graph.{Readable}
use Rattle.model.specs.Formula.{Formula, pick, Below}
use Rattle.logic.specs.Test.{Stand}
use Rattle.logic.proofs.Duality.{dual-below}
use Rattle.sets.specs.Number.{width}
use Rattle.format.specs.Bytes.{byte_at}
use Rattle.format.specs.Refusal.{Clear}
use Rattle.format.specs.Image.{stages_of, graph_of}
use Rattle.format.specs.Table.{tree_of}
use Rattle.format.specs.Question.{question_conditions}
use Rattle.format.proofs.RefusalLaws.{clear_both, clear_first, clear_later}
use Rattle.format.proofs.ReadableLaws.{of-setup, of_image, of-table, sizes, entries, readable, tree-below, goal-below, start-below}
use Rattle.format.proofs.Decision.{both?, eq?, le?, not?, same-as, begins?, stable, Decided}
use Rattle.rules.specs.Steps.{encode}
use Rattle.rules.proofs.Accepted.{certificate as read-certificate}
use Rattle.hand.specs.Side.{sided}
use Rattle.checker.specs.Header.{side_of, HeaderFits, NamesQuestion, header_conditions, header_of}
use Rattle.hand.specs.Environment.{started}
use Rattle.checker.specs.Check.{reading, outer_conditions, Accepted}
use Rattle.checker.specs.Certificate.{Derivation, certificate_of, Certifies, Bytes}
use Rattle.checker.proofs.ByteLaws.{encode-bytes}

-- ---- the header

-- A row of 8 bytes or more is its first 8, and the rest.
first-eight : (l : List ℕ) → 8 ≤ length l
    → l ≡ get_or l 0 0 ∷ get_or l 1 0 ∷ get_or l 2 0 ∷ get_or l 3 0 ∷ get_or l 4 0 ∷ get_or l 5 0 ∷ get_or l 6 0 ∷ get_or l 7 0 ∷ drop 8 l
first-eight [] h = absurd (omega arith)
first-eight (a ∷ []) h = absurd (omega arith)
first-eight (a ∷ b ∷ []) h = absurd (omega arith)
first-eight (a ∷ b ∷ c ∷ []) h = absurd (omega arith)
first-eight (a ∷ b ∷ c ∷ d ∷ []) h = absurd (omega arith)
first-eight (a ∷ b ∷ c ∷ d ∷ e ∷ []) h = absurd (omega arith)
first-eight (a ∷ b ∷ c ∷ d ∷ e ∷ f ∷ []) h = absurd (omega arith)
first-eight (a ∷ b ∷ c ∷ d ∷ e ∷ f ∷ g ∷ []) h = absurd (omega arith)
first-eight (a ∷ b ∷ c ∷ d ∷ e ∷ f ∷ g ∷ i ∷ l) h = refl

module _ {goal start : ℕ} where
  -- Where the header fits and names the question, the certificate is the header of its side, and what comes after it.
  pub whole-certificate : (certificate : List ℕ) → HeaderFits certificate → NamesQuestion certificate goal start
      → certificate ≡ header_of (side_of certificate) goal start ++ drop 8 certificate
  whole-certificate l fits names =
      let begins = fits.begins in
      let high : get_or l 3 0 ≡ 0 = omega (arith, begins.version) in
      let low : get_or l 4 0 ≡ 1 = omega (arith, begins.version) in
      first-eight l begins.long
      ∙ (λ i. begins.Z i ∷ begins.S i ∷ begins.third i ∷ high i ∷ low i ∷ side_of l ∷ names.goal_is i ∷ names.start_is i ∷ drop 8 l)

  -- The header of a side fits, and names the question.
  pub header-fits : (side : ℕ) (steps : List ℕ) → side ≤ 1 → HeaderFits (header_of side goal start ++ steps)
  header-fits side steps h = record { begins = record { long = omega arith; Z = refl; S = refl; third = refl; version = refl }; side = h }

  pub header-names : (side : ℕ) (steps : List ℕ) → NamesQuestion (header_of side goal start ++ steps) goal start
  header-names side steps = record { goal_is = refl; start_is = refl }

-- Whether a header fits and names the question is decided, so what is not refused does both.
abbrev fits? : (certificate : List ℕ) → Dec (HeaderFits certificate)
fits? certificate =
    same-as (λ p. record { begins = p.0; side = p.1 }) (λ f. (f.begins, f.side)) (both? (begins? 0x43 8 certificate) (le? (side_of certificate) 1))

abbrev names? : (certificate : List ℕ) (goal start : ℕ) → Dec (NamesQuestion certificate goal start)
names? certificate goal start =
    same-as (λ p. record { goal_is = p.0; start_is = p.1 }) (λ n. (n.goal_is, n.start_is))
    (both? (eq? (byte_at certificate 6) goal) (eq? (byte_at certificate 7) start))

abbrev pub header-decided : (certificate : List ℕ) (goal start : ℕ) → Decided (header_conditions certificate goal start)
header-decided certificate goal start = (not? (fits? certificate), (not? (names? certificate goal start), tt))

module _ (certificate : List ℕ) (goal start : ℕ) where
  pub clear-header : HeaderFits certificate → NamesQuestion certificate goal start → Clear (header_conditions certificate goal start)
  clear-header fits names = (λ f. f fits, (λ f. f names, tt))

  module _ (clear : Clear (header_conditions certificate goal start)) where
    pub header-does-fit : HeaderFits certificate
    header-does-fit = stable (fits? certificate) clear.0

    pub header-does-name : NamesQuestion certificate goal start
    header-does-name = stable (names? certificate goal start) clear.1.0

-- ---- the question

-- Every variable stands at a stage.
start-stands : {n start : ℕ} → start < n → Stand n (started start)
start-stands {n} {start} h v = go (eqb v 0)
  where
    go : (b : Bool) → pick b start 0 < n
    go true = h
    go false = omega arith

-- A side names no other stages.
sided-below : (n side : ℕ) (f : Formula) → Below n f → Below n (sided side f)
sided-below n zero f b = b
sided-below n (suc k) f b = dual-below n f b

-- What a question that is not refused has: a readable graph for which a set has room, and a goal over it.
module _ (image table : List ℕ) (goal start : ℕ) (clear : Clear (question_conditions image table goal start)) where
  pub asked-readable : Readable (graph_of image)
  asked-readable = readable image (of_image image table (of-setup image table goal start clear))

  pub asked-small : stages_of image ≤ width
  asked-small = (sizes image (of_image image table (of-setup image table goal start clear))).stages

  pub asked-below : (side : ℕ) → Below (stages_of image) (sided side (tree_of image table goal))
  asked-below side =
      sided-below (stages_of image) side (tree_of image table goal)
      (tree-below image table (of-setup image table goal start clear) goal (goal-below image table goal start clear))

  pub asked-stands : Stand (stages_of image) (started start)
  asked-stands = start-stands (start-below image table goal start clear)

-- ---- acceptance

module _ (image table certificate : List ℕ) (goal start : ℕ) where
  pub question-clear : Clear (outer_conditions image table certificate goal start) → Clear (question_conditions image table goal start)
  question-clear = clear_first (question_conditions image table goal start) (header_conditions certificate goal start)

  pub headers-clear : Clear (outer_conditions image table certificate goal start) → Clear (header_conditions certificate goal start)
  headers-clear = clear_later (question_conditions image table goal start) (header_conditions certificate goal start)

  -- What is accepted is the certificate of a derivation of the side that it names,
  own-side : Accepted image table certificate goal start (side_of certificate) → Certifies image table goal start (side_of certificate) certificate
  unfolding reading
  own-side a =
      let clear = question-clear a.clear in
      let fits = header-does-fit certificate goal start (headers-clear a.clear) in
      let names = header-does-name certificate goal start (headers-clear a.clear) in
      let d = (read-certificate (asked-readable image table goal start clear) (asked-small image table goal start clear)
      (sided (side_of certificate) (tree_of image table goal)) (started start) certificate 8 fits.begins.long).0 a.steps in
      (d.0, whole-certificate certificate fits names ∙ (λ i. header_of (side_of certificate) goal start ++ d.1 i))

  pub accepted-certifies : (side : ℕ) → Accepted image table certificate goal start side → Certifies image table goal start side certificate
  accepted-certifies side a =
      subst (λ (s : ℕ). Certifies image table goal start s certificate) (sym a.side_is)
      (own-side (subst (λ (s : ℕ). Accepted image table certificate goal start s) a.side_is a))

-- and the certificate of every derivation is accepted.
module _ (image table : List ℕ) (goal start : ℕ) (clear : Clear (question_conditions image table goal start)) (side : ℕ) (h : side ≤ 1) where
  pub every-certificate : (d : Derivation image table goal start side)
      → Accepted image table (certificate_of image table goal start side d) goal start side
  unfolding reading
  every-certificate d =
      let steps = encode (graph_of image) (sided side (tree_of image table goal)) (started start) d in
      let certificate = header_of side goal start ++ steps in
      record {
        clear =
            clear_both (question_conditions image table goal start) (header_conditions certificate goal start) clear
            (clear-header certificate goal start (header-fits side steps h) (header-names side steps));
        side_is = refl;
        steps =
            (read-certificate (asked-readable image table goal start clear) (asked-small image table goal start clear)
            (sided side (tree_of image table goal)) (started start) certificate 8 (omega arith)).1 (d, refl);
      }

  pub certifies-accepted : (certificate : List ℕ) → Certifies image table goal start side certificate → Accepted image table certificate goal start side
  certifies-accepted certificate c = subst (λ (l : List ℕ). Accepted image table l goal start side) (sym c.1) (every-certificate c.0)

  -- It is a row of bytes.
  pub certificate-bytes : (d : Derivation image table goal start side) → Bytes (certificate_of image table goal start side d)
  certificate-bytes d =
      let setup = of-setup image table goal start clear in
      let few = (sizes image (of_image image table setup)).stages in
      let most = (entries image table (of-table image table setup)).most in
      let goal-byte : goal < 256 = omega (arith, goal-below image table goal start clear, most) in
      let start-byte : start < 256 = omega (arith, start-below image table goal start clear, few) in
      let steps =
      encode-bytes (asked-readable image table goal start clear) (omega (arith, few)) (sided side (tree_of image table goal)) (started start) d in
      (lit< tt, (lit< tt, (lit< tt, (lit< tt, (lit< tt, (omega (arith, h), (goal-byte, (start-byte, steps))))))))
