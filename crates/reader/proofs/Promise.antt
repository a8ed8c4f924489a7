-- The promise of the reader. Reading with a reader is reading with `read_head`, in the bytes that it holds and at its place. A rule is found exactly
-- where its code and chosen byte stand and it is for the formula in hand; the reader then stands after them, and else where it stood.
--
--     once             the contracts of `new`, `place` and `read_heads` are equations: two results that meet one are one
--     step-once        two results of `step` are one, and so are the readers afterwards
--     step-reads       what `step` finds is what `read_head` finds; the bytes stay, and the place is the one after it
--     step-rule        when a rule is found
--     step_after       where the reader stands then, and where none is found
--     step-inside      a reader does not go back, and does not leave its bytes
--     heads-of-steps   the answer of `read_heads` is that of two steps of one reader
--     heads-rules      when it has two rules
--
-- Assumes nothing.
use Prim.Native.Nat.{ℕ, ◌≤◌}
use native.Mathlib.Omega.{arith}
use mathlib.Core.Path.{◌≡◌, sym, ap, ◌∙◌, subst}
use mathlib.Core.List.{List}
use mathlib.Core.Logic.{◌↔◌}
use lib.ListN.{length}
use denote.Ref.{Bor}
use Rattle.rules.specs.Table.{begin, kind_for}
use Rattle.rules.specs.Head.{head_of, Head, step_by}
use Rattle.rules.specs.Spelled.{Spelled}
use Rattle.rules.specs.declared.Rule.{Rule}
use Rattle.std.specs.Prelude.{Ok, Err}
use Rattle.rules.specs.declared.Unread.{Unread}
use Rattle.rules.proofs.Heads.{head_step, head-begins}
use Rattle.rules.proofs.Rows.{inside}
use Rattle.reader.specs.Place.{place_after, reader_at, found_by, moved_on, Stepped, heads_of}
use Rattle.reader.specs.declared.Reader.{Reader}
use Rattle.reader.specs.declared.Heads.{Heads}

-- Two results that meet an equation are one; so the contracts of `new`, `place` and `read_heads` leave nothing open.
pub once : {X : Type 0} {x y z : X} → x ≡ z → y ≡ z → x ≡ y
once p q = p ∙ sym q

-- A step by r, for a formula of the kind with number k, begins at a place and its premises at the next.
pub record Begins (bytes : List ℕ) (at k : ℕ) (r : Rule) (next : ℕ) : Type 0 where
  pub spelled : Spelled bytes (begin r) at next
  pub kind : kind_for r ≡ k

-- That is when it is read.
pub head-rule : (bytes : List ℕ) (at k : ℕ) (r : Rule) (next : ℕ) → (head_of bytes at k ≡ Ok (step_by r next)) ↔ Begins bytes at k r next
head-rule bytes at k r next = (
  λ e. let b = head-begins bytes at k e in record { spelled = b.0; kind = b.1 },
  λ b. subst (λ (j : ℕ). head_of bytes at j ≡ Ok (step_by r next)) b.kind (head_step bytes at r b.spelled),
)

-- ---- one step
module _ (d : Reader) (k : ℕ) (h : Head) (e : Reader) (p : Stepped d k h e) where
  -- One head is found, and one reader is left.
  pub step-once : (i : Head) (f : Reader) → Stepped d k i f → (h ≡ i) × (e ≡ f)
  step-once i f q =
      let same = once p.head q.head in
      (same, p.reader ∙ ap (moved_on d) same ∙ sym q.reader)

  -- It is the head that `read_head` answers, given the same bytes, place and kind; the reader holds the bytes that it held, and stands after that head.
  pub step-reads : (r : Head) → r ≡ head_of d.bytes.now d.place k → (h ≡ r) × (e.bytes ≡ d.bytes) × (e.place ≡ place_after r d.place)
  step-reads r q =
      let same = once p.head q in
      (same, ap (λ (f : Reader). f.bytes) p.reader, ap (λ (f : Reader). f.place) p.reader ∙ ap (λ (i : Head). place_after i d.place) same)

  -- A rule is found exactly where a step by it begins.
  pub step-rule : (r : Rule) (next : ℕ) → (h ≡ Ok (step_by r next)) ↔ Begins d.bytes.now d.place k r next
  step-rule r next =
      let is = head-rule d.bytes.now d.place k r next in
      (λ q. is.0 (sym p.head ∙ q), λ b. p.head ∙ is.1 b)

  -- The reader then stands where its premises begin; and where there is none, the reader is as it was.
  pub step_after : ((r : Rule) (next : ℕ) → h ≡ Ok (step_by r next) → e ≡ reader_at d.bytes next) × (h ≡ Err Unread.Missing → e ≡ d) × (h ≡ Err Unread.Wrong → e ≡ d)
  step_after =
      (λ r next q. p.reader ∙ ap (moved_on d) q, λ q. p.reader ∙ ap (moved_on d) q, λ q. p.reader ∙ ap (moved_on d) q)

  -- It never goes back, and from a place within its bytes, or at their end, it comes to such a place.
  pub step-inside : (d.place ≤ e.place) × (d.place ≤ length d.bytes.now → e.place ≤ length d.bytes.now)
  step-inside = rw p.reader (within h p.head)
    where
      within : (i : Head) → i ≡ found_by d k
          → (d.place ≤ place_after i d.place) × (d.place ≤ length d.bytes.now → place_after i d.place ≤ length d.bytes.now)
      within (Ok step) q =
          let row = ((head-rule d.bytes.now d.place k step.rule step.next).0 (sym q)).spelled in
          (omega (arith, row.long), inside row)
      within (Err unread) q = (omega arith, λ l. l)

-- ---- two steps in a row

-- Two steps of a reader that is made of the bytes and the place give the answer of `read_heads`.
pub heads-of-steps : (s : Bor (List ℕ)) (at k l : ℕ) (h i : Head) (e f : Reader) → Stepped (reader_at s at) k h e → Stepped e l i f
    → record { first = h; second = i; place = f.place } ≡ heads_of s.now at k l
heads-of-steps s at k l h i e f p q = rw (q.reader, q.head, p.reader, p.head)

-- It has two rules exactly where a step by the first begins at the place, and one by the second where the first one's premises begin.
pub heads-rules : (bytes : List ℕ) (at k l : ℕ) (x : Heads) → x ≡ heads_of bytes at k l → (q r : Rule) (mid end : ℕ)
    → (x ≡ record { first = Ok (step_by q mid); second = Ok (step_by r end); place = end }) ↔ (Begins bytes at k q mid × Begins bytes mid l r end)
heads-rules bytes at k l x e q r mid end = (
  λ y.
      let one : head_of bytes at k ≡ Ok (step_by q mid) = ap (λ (z : Heads). z.first) (sym e ∙ y) in
      let two : head_of bytes (place_after (head_of bytes at k) at) l ≡ Ok (step_by r end) = ap (λ (z : Heads). z.second) (sym e ∙ y) in
      ((head-rule bytes at k q mid).0 one, (head-rule bytes mid l r end).0 (rw one at two)),
  λ b. e ∙ rw ((head-rule bytes at k q mid).1 b.0, (head-rule bytes mid l r end).1 b.1),
)
