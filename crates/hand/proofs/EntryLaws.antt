-- The entries of a table in a row: a row that a loop fills entry by entry, and what an entry that is prepared says of the table's record.
--
--     entry-same                                   entries are the same by their fields
--     made-atom, made_other                        the entry of a record
--     prepared-start, prepared-more, prepared-end, prepared-other
--                                                  a row that is filled
--     prepared-once                                the entries are the only ones that are so
--     from-two, from_one                           an entry's atom, as membership in one of its predicate's sets
--     entry-atom                                   of a prepared entry and all sets of the image it is the record's atom
--
-- Assumes nothing.
use Prim.Native.Nat.{ℕ, ◌+◌, ◌/◌, ◌≤◌, ◌<◌, min}
use native.Mathlib.Omega.{arith}
use mathlib.Core.Path.{◌≡◌, refl, sym, ap, ap₂, ◌∙◌, subst}
use mathlib.Core.Bool.{Bool, true, false}
use mathlib.Core.List.{List}
use mathlib.Core.Logic.{⊎_elim, ◌≢◌}
use lib.Dec.{eqb}
use lib.ListN.{length, set, length-set}
use lib.Seq.{get_or-set_same, get_or-set_other}
use borrow.Author.Tests.{eq-eqb, ne_eqb}
use Rattle.model.specs.Decides.{Decides}
use Rattle.model.specs.Formula.{Env, Atom, pick, value}
use Rattle.model.specs.Formula.{atom as atom_as}
use Rattle.sets.specs.Member.{Has}
use Rattle.sets.specs.declared.Set.{Set}
use Rattle.sets.specs.Row.{held}
use Rattle.sets.proofs.LawsMember.{same?, side?}
use Rattle.format.specs.Image.{arity_of, first_set, member, graph_of}
use Rattle.format.specs.Table.{record_at, term_of, pick_atom}
use Rattle.format.specs.declared.record.Record.{Record}
use Rattle.hand.specs.Hand.{atom_in}
use Rattle.hand.specs.Setup.{AllSets, most_entries, of_atom, kind_in, entry_of, entry_at, blank, Prepared}
use Rattle.hand.specs.Setup.{atom_by, atom_from}
use Rattle.hand.specs.declared.setup.Entry.{Entry}
use Rattle.hand.proofs.HandLaws.{member_is}

-- ---- one entry

-- Entries are the same by their fields.
pub entry-same : (p q : Entry) → p.kind ≡ q.kind → p.a ≡ q.a → p.b ≡ q.b → p.x ≡ q.x → p.y ≡ q.y → p.t ≡ q.t → p.arity ≡ q.arity
    → p.first ≡ q.first → p ≡ q
entry-same p q k a b x y t n f =
    λ i. record { kind = k i; a = a i; b = b i; x = x i; y = y i; t = t i; arity = n i; first = f i }

-- ---- the entry of a record

-- What is of an atom only.
pub of-atom : (kind v : ℕ) → kind / 2 ≡ 1 → of_atom kind v ≡ v
of-atom kind v h = ap (λ (b : Bool). pick b v 0) (eq-eqb (kind / 2) 1 h)

of_other : (kind v : ℕ) → (kind / 2 ≡ 1 → ⊥) → of_atom kind v ≡ 0
of_other kind v h = ap (λ (b : Bool). pick b v 0) (ne_eqb (kind / 2) 1 h)

module _ (image : List ℕ) (side : ℕ) (r : Record) {kind : ℕ} (is : kind ≡ kind_in side r) where
  -- An atom's.
  pub made-atom : {arity first : ℕ} → kind / 2 ≡ 1 → arity ≡ arity_of image r.a → first ≡ first_set image r.a
      → record { kind = kind; a = r.a; b = r.b; x = r.x; y = r.y; t = r.t; arity = arity; first = first } ≡ entry_of image side r
  unfolding entry_of
  made-atom h n f =
      let at = ap (λ (k : ℕ). k / 2) (sym is) ∙ h in
      entry-same _ (entry_of image side r) is refl refl refl refl refl (n ∙ sym (of-atom (kind_in side r) (arity_of image r.a) at))
      (f ∙ sym (of-atom (kind_in side r) (first_set image r.a) at))

  -- Another kind's.
  pub made_other : (kind / 2 ≡ 1 → ⊥)
      → record { kind = kind; a = r.a; b = r.b; x = r.x; y = r.y; t = r.t; arity = 0; first = 0 } ≡ entry_of image side r
  unfolding entry_of
  made_other h =
      let at : kind_in side r / 2 ≡ 1 → ⊥ = λ q. h (ap (λ (k : ℕ). k / 2) is ∙ q) in
      entry-same _ (entry_of image side r) is refl refl refl refl refl (sym (of_other (kind_in side r) (arity_of image r.a) at))
      (sym (of_other (kind_in side r) (first_set image r.a) at))

-- ---- a row of entries

-- Before the first entry nothing is put in.
pub prepared-start : (image table : List ℕ) (side : ℕ) (entries : List Entry) → length entries ≡ most_entries → Prepared image table 0 side entries entries
prepared-start image table side entries room = record {
  entries = λ e h r l. absurd (omega arith);
  others = λ e h r. refl;
  kept = λ h. absurd (h room);
  size = refl;
}

-- One entry more is put in.
pub prepared-more : {image table : List ℕ} {before row : List Entry} {e side : ℕ} {p : Entry} → length before ≡ most_entries → e < most_entries
    → Prepared image table e side before row → p ≡ entry_of image side (record_at table e) → Prepared image table (e + 1) side before (set row e p)
prepared-more {image} {table} {before} {row} {e} {side} {p} room small f is = record {
  entries = λ k h r l. ⊎_elim
      (λ q. subst (λ (j : ℕ). entry_at (set row e p) j ≡ entry_of image side (record_at table j)) (sym q) (get_or-set_same row e p blank inside ∙ is))
      (λ q. get_or-set_other row e k p blank q ∙ f.entries k (omega arith) r l)
      (same? k e);
  others = λ k h r. get_or-set_other row e k p blank (λ q. omega arith) ∙ f.others k (omega arith) r;
  kept = λ h. absurd (h room);
  size = length-set row e p ∙ f.size;
}
  where
    inside : e < length row
    inside = omega (arith, small, f.size, room)

-- After the last the row is prepared.
pub prepared-end : {image table : List ℕ} {before row : List Entry} {m e side : ℕ} → e ≤ min m most_entries → min m most_entries ≤ e
    → Prepared image table e side before row → length before ≡ most_entries → Prepared image table m side before row
prepared-end {m = m} {e = e} l g f room = record {
  entries = λ k h r q. f.entries k (omega arith) r q;
  others = λ k h r. f.others k (omega arith) r;
  kept = λ h. absurd (h room);
  size = f.size;
}

-- A row of another length does not change.
pub prepared-other : (image table : List ℕ) (m side : ℕ) (entries : List Entry) → length entries ≢ most_entries → Prepared image table m side entries entries
prepared-other image table m side entries h = record {
  entries = λ e l r g. absurd (h g);
  others = λ e l r. refl;
  kept = λ g. refl;
  size = refl;
}

-- Two rows that a table is prepared to hold the same entries.
pub prepared-once : {image table : List ℕ} {before a b : List Entry} {m side : ℕ} → Prepared image table m side before a → Prepared image table m side before b
    → (e : ℕ) → e < most_entries → entry_at a e ≡ entry_at b e
prepared-once {before = before} {m = m} p q e h = ⊎_elim
    (λ g. ⊎_elim (λ l. p.entries e l h g ∙ sym (q.entries e l h g)) (λ l. p.others e l h ∙ sym (q.others e l h)) (side? e m))
    (λ s. ap (λ (l : List Entry). entry_at l e) (p.kept s ∙ sym (q.kept s)))
    (same? (length before) most_entries)

-- ---- an entry's atom, from a row of sets

module _ (sets : List Set) (p : Entry) (env : Env) {t : ℕ} (t-is : t ≡ value env (term_of p.t)) where
  pub from-two : {u set : ℕ} {b : Bool} → p.arity ≡ 2 → u ≡ value env (term_of p.b) → set ≡ held sets (p.first + t) → Decides b (Has set u)
      → b ≡ atom_from sets p env
  unfolding atom_from
  from-two {u} {set} {b} two u-is set_is d =
      member_is set u b d
      ∙ ap₂ member (set_is ∙ ap (λ (i : ℕ). held sets (p.first + i)) t-is) u-is
      ∙ ap (λ (c : Bool). atom_by c sets p env) (sym (eq-eqb p.arity 2 two))

  pub from_one : {set : ℕ} {b : Bool} → (p.arity ≡ 2 → ⊥) → set ≡ held sets p.first → Decides b (Has set t) → b ≡ atom_from sets p env
  unfolding atom_from
  from_one {set} {b} two set_is d =
      member_is set t b d
      ∙ ap₂ member set_is t-is
      ∙ ap (λ (c : Bool). atom_by c sets p env) (sym (ne_eqb p.arity 2 two))

-- Of all sets of an image, and of the entry that is prepared for an atom, it is the atom of the record.
pub entry-atom : {image : List ℕ} {sets : List Set} (side : ℕ) (r : Record) {p : Entry} (env : Env) → AllSets image sets → p ≡ entry_of image side r
    → kind_in side r / 2 ≡ 1 → atom_from sets p env ≡ atom_in image r env
unfolding atom_from entry_of
entry-atom {image} {sets} side r env all is atom =
    ap (λ (p : Entry). atom_from sets p env) is
    ∙ ap₂ (λ (n f : ℕ). atom_by (eqb n 2) sets (of n f) env) (of-atom (kind_in side r) (arity_of image r.a) atom)
    (of-atom (kind_in side r) (first_set image r.a) atom)
    ∙ by-arity (eqb (arity_of image r.a) 2)
  where
    of : ℕ → ℕ → Entry
    of n f = record { kind = kind_in side r; a = r.a; b = r.b; x = r.x; y = r.y; t = r.t; arity = n; first = f }

    by-arity : (two : Bool) → atom_by two sets (of (arity_of image r.a) (first_set image r.a)) env
        ≡ atom_as (graph_of image) env (pick_atom two (Atom.two r.a (term_of r.t) (term_of r.b)) (Atom.one r.a (term_of r.t)))
    by-arity true = ap (λ (z : ℕ). member z (value env (term_of r.b))) (all.each (first_set image r.a + value env (term_of r.t)))
    by-arity false = ap (λ (z : ℕ). member z (value env (term_of r.t))) (all.each (first_set image r.a))
