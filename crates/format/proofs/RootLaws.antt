-- Entries that are operands of none: where none of their formulas nests too deep, no formula does, since an operand's formula nests no deeper than
-- the one that it stands in. Over plain values.
-- Assumes nothing.
use Prim.Native.Nat.{ℕ, zero, suc, max, ◌+◌, ◌≤◌, ◌<◌}
use native.Mathlib.Omega.{arith}
use mathlib.Core.Path.{◌≡◌, refl, sym, ap, ◌∙◌, subst}
use mathlib.Core.Bool.{Bool, true, false}
use Rattle.std.proofs.lemmas.Bool.{false≢true}
use mathlib.Core.List.{List, [], ◌∷◌, ◌++◌}
use mathlib.Core.Logic.{◌⊎◌, inl, inr, ⊎_elim}
use lib.ListN.{length, get_or}
use Rattle.model.specs.Formula.{nesting}
use Rattle.format.specs.Table.{record_at, entries_of, kind_of, sort_of, RuledAs, Ruled, operands_as, operands_in, operands, nth, trees, tree_of}
use Rattle.format.specs.Table.{EntriesFit, BadRecord, NestedTooDeep}
use Rattle.format.specs.Reading.{In, Flagged, Nested, Roots, DeepRoot}
use Rattle.format.specs.declared.record.Record.{Record}
use Rattle.format.specs.declared.record.Sort.{Sort}
use Rattle.format.specs.declared.record.Sort.TheVariants as S
use Rattle.format.proofs.ReadingLaws.{all-ruled}
use Rattle.format.proofs.TreeLaws.{tree-made, tree-at, nesting_as, nesting-made}

-- What stands in two rows put together stands in one of them.
in_either : (xs ys : List ℕ) (o i : ℕ) → i < length (xs ++ ys) → get_or (xs ++ ys) i 0 ≡ o → In o xs ⊎ In o ys
in_either [] ys o i h e = inr (i, h, e)
in_either (x ∷ xs) ys o zero h e = inl (0, omega arith, e)
in_either (x ∷ xs) ys o (suc i) h e =
    ⊎_elim (λ p. inl (suc p.0, omega (arith, p.1), p.2)) (λ p. inr p) (in_either xs ys o i (omega arith) e)

-- What stands among the operands of the first m entries is operand of one of them.
operand-of : (table : List ℕ) (m o : ℕ) → In o (operands table m) → (e : ℕ) × (e < m) × In o (operands_in (record_at table e))
unfolding operands
operand-of table zero o p = absurd (omega (arith, p.1))
operand-of table (suc m) o p =
    ⊎_elim
    (λ q. let found = operand-of table m o q in (found.0, omega (arith, found.1), found.2))
    (λ q. (m, omega arith, q))
    (in_either (operands table m) (operands_in (record_at table m)) o p.0 p.1 p.2)

-- An operand of a record that keeps its rules has a lower number; and whatever is counted of the operands as nesting is, there is no more of it in one
-- operand than in the whole.
row-lower : (row : Sort) (image : List ℕ) (e : ℕ) (r : Record) (o i : ℕ) → RuledAs row image e r → i < length (operands_as row r)
    → get_or (operands_as row r) i 0 ≡ o → (o < e) × ((d : ℕ → ℕ) → d o ≤ nesting_as row (d r.a) (d r.b))
row-lower S.Constant image e r o i rule h is = absurd (omega arith)
row-lower S.Atom image e r o i rule h is = absurd (omega arith)
row-lower S.Junction image e r o zero rule h is =
    (omega (arith, rule.a), λ d. subst (λ (x : ℕ). d x ≤ max (d r.a) (d r.b)) is (omega arith))
row-lower S.Junction image e r o (suc zero) rule h is =
    (omega (arith, rule.b), λ d. subst (λ (x : ℕ). d x ≤ max (d r.a) (d r.b)) is (omega arith))
row-lower S.Junction image e r o (suc (suc i)) rule h is = absurd (omega arith)
row-lower S.Unary image e r o zero rule h is = (omega (arith, rule.a), λ d. subst (λ (x : ℕ). d x ≤ suc (d r.a)) is (omega arith))
row-lower S.Unary image e r o (suc i) rule h is = absurd (omega arith)
row-lower S.Binary image e r o zero rule h is =
    (omega (arith, rule.a), λ d. subst (λ (x : ℕ). d x ≤ suc (max (d r.a) (d r.b))) is (omega arith))
row-lower S.Binary image e r o (suc zero) rule h is =
    (omega (arith, rule.b), λ d. subst (λ (x : ℕ). d x ≤ suc (max (d r.a) (d r.b))) is (omega arith))
row-lower S.Binary image e r o (suc (suc i)) rule h is = absurd (omega arith)

-- An operand has a lower number than its entry, and its formula nests no deeper.
nests-lower : (image table : List ℕ) (e o : ℕ) → Ruled image e (record_at table e) → In o (operands_in (record_at table e))
    → (o < e) × (nesting (tree_of image table o) ≤ nesting (tree_of image table e))
nests-lower image table e o rule p =
    let r = record_at table e in
    let tree = nth (trees image table e) in
    let found = row-lower (sort_of (kind_of r.kind)) image e r o p.0 rule.keeps p.1 p.2 in (
      found.0,
      omega (
        arith,
        found.1 (λ i. nesting (tree i)),
        ap nesting (tree-made image table e) ∙ nesting-made image tree r refl,
        ap nesting (tree-at image table e o found.0),
      ),
    )

flag? : (b : Bool) → (b ≡ true) ⊎ (b ≡ false)
flag? true = inl refl
flag? false = inr refl

module _ (image table : List ℕ) (seen : List Bool) (roots : Roots image table seen) (none : (k : ℕ) → k < entries_of table → DeepRoot image table seen k → ⊥) where
  -- From any entry a way up, to ever higher numbers, ends at an entry that is operand of none.
  none-upward : (d k : ℕ) → entries_of table ≤ k + d → k < entries_of table → 4 < nesting (tree_of image table k) → ⊥
  none-upward zero k h l deep = omega arith
  none-upward (suc d) k h l deep =
      ⊎_elim
      (λ flag.
      let p = operand-of table (entries_of table) k (roots.flagged k l flag) in
      let up = nests-lower image table p.0 k (roots.ruled p.0 p.1) p.2 in
      none-upward d p.0 (omega (arith, up.0)) p.1 (omega (arith, up.1)))
      (λ root. none k l (record { root = λ flag. false≢true (sym root ∙ flag); deep = deep }))
      (flag? (get_or seen k false))

  -- Where no entry that is operand of none nests too deep, no entry does.
  pub none_deep : NestedTooDeep image table → ⊥
  none_deep deep = none-upward (entries_of table) deep.entry (omega arith) deep.below deep.deep

-- What the code asks of an entry: whether it has a flag, and how deep its formula nests.
pub deep-root : (image : List ℕ) {table : List ℕ} {seen : List Bool} {e x : ℕ} → get_or seen e false ≡ false → Nested table e x → 4 < x
    → DeepRoot image table seen e
deep-root image new nested deep = record { root = λ flag. false≢true (sym new ∙ flag); deep = omega (arith, nested.is image) }

pub flag-no-root : (image : List ℕ) {table : List ℕ} {seen : List Bool} {e : ℕ} → get_or seen e false ≡ true → DeepRoot image table seen e → ⊥
flag-no-root image flag root = root.root flag

pub flat-no-root : (image : List ℕ) {table : List ℕ} {seen : List Bool} {e x : ℕ} → Nested table e x → x ≤ 4 → DeepRoot image table seen e → ⊥
flat-no-root image nested flat root = omega (arith, nested.is image, root.deep)

-- The flags of all operands of a table without a bad record say what is asked.
pub roots-of : (image table : List ℕ) {seen : List Bool} → EntriesFit table → (BadRecord image table → ⊥) → Flagged (operands table (entries_of table)) seen
    → Roots image table seen
roots-of image table fits good was = record {
  most = fits.most;
  ruled = all-ruled image table good;
  flagged = λ o h flag. (was.seen o (omega (arith, fits.most))).0 flag;
}
