-- The flags of the "operand twice" test, over rows of operands: what one operand more does to them, and what they say at the end.
use Prim.Native.Nat.{ℕ, zero, suc, ◌+◌, ◌≤◌, ◌<◌}
use native.Mathlib.Omega.{arith}
use native.Mathlib.Numerals.{add-one}
use mathlib.Core.Path.{◌≡◌, refl, sym, ap, ◌∙◌, subst, subst⁻¹}
use mathlib.Core.Bool.{Bool, true, false}
use Rattle.std.proofs.lemmas.Bool.{false≢true}
use Rattle.std.specs.Prelude.{Result, Ok, Err}
use mathlib.Core.List.{List, [], ◌∷◌, ◌++◌, append_assoc, append-nil}
use mathlib.Core.Logic.{◌⊎◌, inl, inr, ⊎_elim}
use lib.ListN.{length, get_or, set, replicate, length-append, length-set, get_or-replicate, get_or-append}
use lib.Seq.{get_or-append_seam, get_or-set_same, get_or-set_other}
use Rattle.sets.proofs.LawsMember.{side?, same?}
use Rattle.format.specs.Table.{Twice, kind_of, sort_of, operands_as, operands_in, operands, record_at}
use Rattle.format.specs.Reading.{In, Flagged, Noted, OperandsSmall}
use Rattle.format.specs.declared.Refusal.{Refusal}
use Rattle.format.specs.declared.record.Record.{Record}
use Rattle.format.specs.declared.record.Sort.{Sort}
use Rattle.format.specs.declared.record.Kind.{Kind}

-- How long a row is with one operand more.
one_more : (row : List ℕ) (o : ℕ) → length (row ++ (o ∷ [])) ≡ length row + 1
one_more row o = length-append row (o ∷ [])

-- What stands in a row stands in it at the same place with one operand more, which stands last.
kept : (row : List ℕ) (o i : ℕ) → i < length row → get_or (row ++ (o ∷ [])) i 0 ≡ get_or row i 0
kept row o i h = get_or-append row (o ∷ []) 0 i h

last : (row : List ℕ) (o i : ℕ) → i ≡ length row → get_or (row ++ (o ∷ [])) i 0 ≡ o
last row o i e = rw e (get_or-append_seam row o [] 0)

-- An entry that stood in a row stands in it with one operand more, and so does that operand; no other entry does.
in_kept : (row : List ℕ) (o q : ℕ) → In q row → In q (row ++ (o ∷ []))
in_kept row o q p = (p.0, omega (arith, one_more row o, p.1), kept row o p.0 p.1 ∙ p.2)

in-last : (row : List ℕ) (o : ℕ) → In o (row ++ (o ∷ []))
in-last row o = (length row, omega (arith, one_more row o), last row o (length row) refl)

in_split : (row : List ℕ) (o q : ℕ) → In q (row ++ (o ∷ [])) → In q row ⊎ (q ≡ o)
in_split row o q p =
    ⊎_elim
    (λ h. inl (p.0, h, sym (kept row o p.0 h) ∙ p.2))
    (λ h. inr (sym p.2 ∙ last row o p.0 (omega (arith, one_more row o, p.1))))
    (side? p.0 (length row))

-- A row with one operand more holds one twice only where it did before, or where that operand stood in it.
twice-split : (row : List ℕ) (o : ℕ) → Twice (row ++ (o ∷ [])) → Twice row ⊎ In o row
twice-split row o t =
    ⊎_elim
    (λ h.
    let g : t.first < length row = omega (arith, t.apart) in
    inl
    (record {
      first = t.first;
      second = t.second;
      apart = t.apart;
      there = h;
      same = sym (kept row o t.first g) ∙ t.same ∙ kept row o t.second h;
    }))
    (λ h.
    let g : t.first < length row = omega (arith, one_more row o, t.apart, t.there) in
    inr (t.first, g, sym (kept row o t.first g) ∙ t.same ∙ last row o t.second (omega (arith, one_more row o, t.there))))
    (side? t.second (length row))

-- What a row holds twice it does with any operands more.
pub twice-more : (row more : List ℕ) → Twice row → Twice (row ++ more)
twice-more row more t =
    record {
      first = t.first;
      second = t.second;
      apart = t.apart;
      there = omega (arith, length-append row more, t.there);
      same = get_or-append row more 0 t.first (omega (arith, t.apart, t.there)) ∙ t.same ∙ sym (get_or-append row more 0 t.second t.there);
    }

-- The flags before any operand.
pub flagged-none : Flagged [] (replicate 64 false)
flagged-none =
    record {
      size = refl;
      seen = λ o h. (λ e. absurd (false≢true (sym (get_or-replicate {A = Bool} 64 o false false h) ∙ e)), λ p. absurd (none p));
      once = λ t. omega (arith, t.there);
    }
  where
    none : {o : ℕ} → In o [] → ⊥
    none p = omega (arith, p.1)

module _ (seen : List Bool) (o : ℕ) (small : o < 64) (row : List ℕ) (was : Flagged row seen) where
  -- One operand more that has none yet: it gets its flag.
  pub flag-new : get_or seen o false ≡ false → Flagged (row ++ (o ∷ [])) (set seen o true)
  flag-new new =
      record {
        size = length-set seen o true ∙ was.size;
        seen = λ q h. (up q h, down q h);
        once = λ t. ⊎_elim was.once (λ p. false≢true (sym new ∙ (was.seen o small).1 p)) (twice-split row o t);
      }
    where
      up : (q : ℕ) → q < 64 → get_or (set seen o true) q false ≡ true → In q (row ++ (o ∷ []))
      up q h e =
          ⊎_elim
          (λ d. subst⁻¹ (λ (x : ℕ). In x (row ++ (o ∷ []))) d (in-last row o))
          (λ d. in_kept row o q ((was.seen q h).0 (sym (get_or-set_other seen o q true false d) ∙ e)))
          (same? q o)

      down : (q : ℕ) → q < 64 → In q (row ++ (o ∷ [])) → get_or (set seen o true) q false ≡ true
      down q h p =
          ⊎_elim
          (λ d. subst⁻¹ (λ (x : ℕ). get_or (set seen o true) x false ≡ true) d (get_or-set_same seen o true false (omega (arith, was.size))))
          (λ d.
          get_or-set_other seen o q true false d
          ∙ ⊎_elim (λ g. (was.seen q h).1 g) (λ e. absurd (d e)) (in_split row o q p))
          (same? q o)

-- From the row of kinds that the code found to the record's operands.
pub operands-by : (row : Sort) (r : Record) (kind : Kind) (found : Sort) → kind ≡ kind_of r.kind → found ≡ sort_of kind → found ≡ row
    → operands_in r ≡ operands_as row r
operands-by row r kind found kind-is found-is is =
    let same : sort_of (kind_of r.kind) ≡ row = cc in
    ap (λ (s : Sort). operands_as s r) same

-- Where the operands are small, the first is, and so is the second.
pub small-first : (r : Record) {a : ℕ} {more : List ℕ} → operands_in r ≡ a ∷ more → OperandsSmall (operands_in r) → a < 64
small-first r {a} {more} e small = (subst (λ (l : List ℕ). OperandsSmall l) e small) 0 (omega arith)

pub small-second : (r : Record) {a b : ℕ} {more : List ℕ} → operands_in r ≡ a ∷ b ∷ more → OperandsSmall (operands_in r) → b < 64
small-second r {a} {b} {more} e small = (subst (λ (l : List ℕ). OperandsSmall l) e small) 1 (omega arith)

-- No operands more: the flags stay.
pub noted-none : (before : List Bool) (done : Unit {0}) → Noted before [] before (Ok done)
noted-none before done = λ row was. subst (λ (l : List ℕ). Flagged l before) (sym (append-nil row)) was

-- Two operands more, one after the other; and one that stands twice, whatever comes after it.
pub noted-two : (before mid after : List Bool) (a b : ℕ) (r : Result (Unit {0}) Refusal)
    → ((row : List ℕ) → Flagged row before → Flagged (row ++ (a ∷ [])) mid) → Noted mid (b ∷ []) after r → Noted before (a ∷ b ∷ []) after r
noted-two before mid after a b (Ok _) p q =
    λ row was. subst (λ (l : List ℕ). Flagged l after) (append_assoc row (a ∷ []) (b ∷ [])) (q (row ++ (a ∷ [])) (p row was))
noted-two before mid after a b (Err k) p q = (q.0, λ row was. subst Twice (append_assoc row (a ∷ []) (b ∷ [])) (q.1 (row ++ (a ∷ [])) (p row was)))

pub noted-once : (before after : List Bool) (a b : ℕ) (k : Refusal) → Noted before (a ∷ []) after (Err k) → Noted before (a ∷ b ∷ []) after (Err k)
noted-once before after a b k q =
    (q.0, λ row was. subst Twice (append_assoc row (a ∷ []) (b ∷ [])) (twice-more (row ++ (a ∷ [])) (b ∷ []) (q.1 row was)))

-- The flags after the operands of one entry more.
pub flagged-entry : (table : List ℕ) (e : ℕ) {r : Record} {before after : List Bool} → r ≡ record_at table e
    → ((row : List ℕ) → Flagged row before → Flagged (row ++ operands_in r) after) → Flagged (operands table e) before
    → Flagged (operands table (e + 1)) after
unfolding operands
flagged-entry table e {after = after} r-is p was =
    rw add-one (subst (λ (x : Record). Flagged (operands table e ++ operands_in x) after) r-is (p (operands table e) was))

-- What stands twice among the operands of the first entries does so among those of all.
twice-upto : (table : List ℕ) (e m : ℕ) → e ≤ m → Twice (operands table e) → Twice (operands table m)
unfolding operands
twice-upto table e zero h t = let none : e ≡ zero = omega arith in subst (λ (k : ℕ). Twice (operands table k)) none t
twice-upto table e (suc m) h t =
    ⊎_elim (λ l. twice-more (operands table m) (operands_in (record_at table m)) (twice-upto table e m (omega arith) t))
    (λ g. let all : e ≡ suc m = omega arith in subst (λ (k : ℕ). Twice (operands table k)) all t)
    (side? e (suc m))

pub twice-entry : (table : List ℕ) (e m : ℕ) {r : Record} → r ≡ record_at table e → e < m → Twice (operands table e ++ operands_in r)
    → Twice (operands table m)
unfolding operands
twice-entry table e m r-is h t =
    twice-upto table (suc e) m h (subst (λ (x : Record). Twice (operands table e ++ operands_in x)) r-is t)
