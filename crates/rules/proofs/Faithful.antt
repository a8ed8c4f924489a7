-- A reader that reads the steps of derivations: each of them, no other bytes, and no two alike. The law is shown once for each shape.
--
--     Faithful                     what is shown
--     one_end                      derivations whose steps stand at one place end at one place
--     of_none                      of nothing there is no derivation, and nothing is read
--     at_once, in-turn, at_each    readers of no steps, of two things in turn, and of a thing at each successor
use Prim.Native.Nat.{ℕ, zero, suc, ◌<◌}
use native.Mathlib.Omega.{arith}
use mathlib.Core.Path.{◌≡◌, refl, sym, ap, subst, ◌∙◌, fun_ext}
use mathlib.Core.Bool.{Bool, true, false}
use mathlib.Core.Logic.{◌⊎◌, inl, inr, ⊎_elim}
use mathlib.Core.List.{List, [], ◌++◌}
use lib.Dec.{T}
use Rattle.logic.proofs.Booleans.{equal?, differ}
use Rattle.rules.specs.Spelled.{Spelled}
use Rattle.rules.specs.Steps.{if_next, ascending}
use Rattle.rules.specs.Reading.{Reader, onward, visit, through, Progress}
use Rattle.std.specs.Prelude.{Ok, Err}
use Rattle.rules.specs.declared.Stop.{Stop}
use Rattle.rules.proofs.Rows.{empty-row, empty-at, join, split}

-- The reader `read` reads the steps of what derives D.
pub record Faithful (bytes : List ℕ) (read : Reader) (D : Type 0) (steps : D → List ℕ) : Type 0 where
  -- Where the steps of a derivation stand, it reads them to their end.
  pub accepts : (d : D) {at end : ℕ} → Spelled bytes (steps d) at end → read at ≡ Ok end
  -- What it reads to an end are the steps of a derivation.
  pub proves : {at end : ℕ} → read at ≡ Ok end → (d : D) × Spelled bytes (steps d) at end
  -- Derivations whose steps stand at one place are equal.
  pub unique : (d d' : D) {at end end' : ℕ} → Spelled bytes (steps d) at end → Spelled bytes (steps d') at end' → d ≡ d'

same_place : {r : Progress} {p q : ℕ} → r ≡ Ok p → r ≡ Ok q → p ≡ q
same_place e f = cc

module _ {bytes : List ℕ} {read : Reader} {D : Type 0} {steps : D → List ℕ} (law : Faithful bytes read D steps) where
  -- Derivations whose steps stand at one place end at one place.
  pub one_end : (d d' : D) {at end end' : ℕ} → Spelled bytes (steps d) at end → Spelled bytes (steps d') at end' → end ≡ end'
  one_end d d' s s' = same_place (law.accepts d s) (law.accepts d' s')

-- Of nothing there is no derivation, and nothing is read.
pub of_none : {bytes : List ℕ} → Faithful bytes (λ at. Err Stop.Missing) ⊥ (λ d. [])
of_none = record { accepts = λ d s. absurd d; proves = λ e. absurd (never e); unique = λ d d' s s'. absurd d }
  where
    never : {end : ℕ} → Err Stop.Missing ≡ Ok end → ⊥
    never e = let z : ◌≡◌ {A = ℕ} 0 1 = cc in omega arith

-- No steps.
pub at_once : {bytes : List ℕ} → Faithful bytes Ok (Unit {0}) (λ d. [])
at_once {bytes} = record {
  accepts = λ d s. ap Ok (empty-at s);
  proves = λ {at} e. (tt, subst (λ (m : ℕ). Spelled bytes [] at m) (same_place {r = Ok at} refl e) (empty-row at));
  unique = λ d d' s s'. refl;
}

-- Where a reading of two things in turn ends, the first ended and the second went on from there.
pub onward-at : (r : Progress) (k : Reader) {end : ℕ} → onward r k ≡ Ok end → (mid : ℕ) × (r ≡ Ok mid) × (k mid ≡ Ok end)
onward-at (Ok p) k e = (p, refl, e)
onward-at (Err stop) k e = absurd (let z : ◌≡◌ {A = ℕ} 0 1 = cc in omega arith)

-- Two things in turn.
module _ {bytes : List ℕ} {r r' : Reader} {D D' : Type 0} {x : D → List ℕ} {x' : D' → List ℕ} where
  pub in-turn : Faithful bytes r D x → Faithful bytes r' D' x' → Faithful bytes (λ at. onward (r at) r') (D × D') (λ d. x d.0 ++ x' d.1)
  in-turn law law' = record { accepts = accepts; proves = proves; unique = unique }
    where
      accepts : (d : D × D') {at end : ℕ} → Spelled bytes (x d.0 ++ x' d.1) at end → onward (r at) r' ≡ Ok end
      accepts d s = let m = split (x d.0) s in rw (law.accepts d.0 m.1) (law'.accepts d.1 m.2)

      proves : {at end : ℕ} → onward (r at) r' ≡ Ok end → (d : D × D') × Spelled bytes (x d.0 ++ x' d.1) at end
      proves {at} e =
          let m = onward-at (r at) r' e in
          let p = law.proves m.1 in
          let q = law'.proves m.2 in
          ((p.0, q.0), join p.1 q.1)

      unique : (d d' : D × D') {at end end' : ℕ} → Spelled bytes (x d.0 ++ x' d.1) at end → Spelled bytes (x d'.0 ++ x' d'.1) at end' → d ≡ d'
      unique d d' {end' = end'} s s' =
          let m = split (x d.0) s in
          let m' = split (x d'.0) s' in
          let e : m'.0 ≡ m.0 = one_end law d'.0 d.0 m'.1 m.1 in
          let t : Spelled bytes (x' d'.1) m.0 end' = subst (λ (p : ℕ). Spelled bytes (x' d'.1) p end') e m'.2 in
          λ i. (law.unique d.0 d'.0 m.1 m'.1 i, law'.unique d.1 d'.1 m.2 t i)

-- The last number below `suc n` is n.
pub last : {k n : ℕ} → k < suc n → (k ≡ n) ⊎ (k < n)
last {k} {n} h = ⊎_elim (λ e. inl e) (λ f. let d : k ≡ n → ⊥ = differ k n f in inr (omega arith)) (equal? k n)

-- At a stage that is a successor, or is not.
module _ {bytes : List ℕ} {r : Reader} {D : Type 0} {x : D → List ℕ} where
  at_next : (b : Bool) → (T b → Faithful bytes r D x) → Faithful bytes (visit b r) (T b → D) (λ k. if_next b (λ n. x (k n)))
  at_next true law = record {
    accepts = λ k s. (law tt).accepts (k tt) s;
    proves = λ e. let p = (law tt).proves e in ((λ n. p.0), p.1);
    unique = λ k k' s s'. fun_ext (λ n. (law tt).unique (k n) (k' n) s s');
  }
  at_next false law = record {
    accepts = λ k s. at_once.accepts tt s;
    proves = λ e. ((λ n. absurd n), (at_once.proves e).1);
    unique = λ k k' s s'. fun_ext (λ n. absurd n);
  }

-- What is read at a stage that is a successor is what its reader reads.
pub visited : (b : Bool) (r : Reader) {p : ℕ} → T b → visit b r p ≡ r p
visited true r n = refl
visited false r n = absurd n

-- A thing at each successor. Below n lie all of them.
module _ {bytes : List ℕ} (n : ℕ) (next : ℕ → Bool) (below : (t : ℕ) → T (next t) → t < n) (r : ℕ → Reader) {D : ℕ → Type 0}
    (x : (t : ℕ) → D t → List ℕ) (law : (t : ℕ) → T (next t) → Faithful bytes (r t) (D t) (x t)) where
  -- a derivation at each successor, and the steps of those below m
  abbrev AtEach : Type 0
  AtEach = (t : ℕ) → T (next t) → D t

  abbrev up_to : ℕ → AtEach → List ℕ
  up_to m k = ascending m next (λ t u. x t (k t u))

  each-accepts : (m : ℕ) (k : AtEach) {at end : ℕ} → Spelled bytes (up_to m k) at end → through m next r at ≡ Ok end
  each-accepts zero k s = ap Ok (empty-at s)
  each-accepts (suc m) k s =
      let h = split (up_to m k) s in rw (each-accepts m k h.1) ((at_next (next m) (law m)).accepts (k m) h.2)

  -- Where the reading came before a stage below m, and from there.
  each-stop : (m at : ℕ) {end : ℕ} → through m next r at ≡ Ok end → (t : ℕ) → t < m
      → (p : ℕ) × (q : ℕ) × (through t next r at ≡ Ok p) × (visit (next t) (r t) p ≡ Ok q)
  each-stop zero at e t h = absurd (omega arith)
  each-stop (suc m) at {end} e t h =
      let k = onward-at (through m next r at) (visit (next m) (r m)) e in
      ⊎_elim (λ f. rw f (k.0, end, k.1, k.2)) (λ i. each-stop m at k.1 t i) (last h)

  each-proves : {at end : ℕ} → through n next r at ≡ Ok end → (k : AtEach) × Spelled bytes (up_to n k) at end
  each-proves {at} {end} e = (k, rows n e)
    where
      piece : (t : ℕ) (u : T (next t))
          → (p : ℕ) × (q : ℕ) × (through t next r at ≡ Ok p) × (r t p ≡ Ok q) × (d : D t) × Spelled bytes (x t d) p q
      piece t u =
          let h = each-stop n at e t (below t u) in
          let f : r t h.0 ≡ Ok h.1 = sym (visited (next t) (r t) u) ∙ h.3 in
          let d = (law t u).proves f in
          (h.0, h.1, h.2, f, d.0, d.1)

      k : AtEach
      k t u = (piece t u).4

      here : (t : ℕ) {mid p : ℕ} → through t next r at ≡ Ok mid → (u : T (next t)) → r t mid ≡ Ok p → Spelled bytes (x t (k t u)) mid p
      here t {mid} {p} f u g =
          let h = piece t u in
          let e₀ : h.0 ≡ mid = same_place h.2 f in
          let e₁ : h.1 ≡ p = same_place h.3 (rw e₀ g) in
          subst (λ (q : ℕ). Spelled bytes (x t (k t u)) mid q) e₁ (subst (λ (q : ℕ). Spelled bytes (x t (k t u)) q h.1) e₀ h.5)

      row : (b : Bool) (f : T b → List ℕ) (q : Reader) {mid p : ℕ} → visit b q mid ≡ Ok p
          → ((u : T b) → q mid ≡ Ok p → Spelled bytes (f u) mid p) → Spelled bytes (if_next b f) mid p
      row true f q e h = h tt e
      row false f q e h = (at_once.proves e).1

      rows : (m : ℕ) {p : ℕ} → through m next r at ≡ Ok p → Spelled bytes (up_to m k) at p
      rows zero f = (at_once.proves f).1
      rows (suc m) f =
          let h = onward-at (through m next r at) (visit (next m) (r m)) f in
          join (rows m h.1) (row (next m) (λ u. x m (k m u)) (r m) h.2 (here m h.1))

  each-unique : (m : ℕ) (k k' : AtEach) {at end end' : ℕ} → Spelled bytes (up_to m k) at end → Spelled bytes (up_to m k') at end'
      → (t : ℕ) → t < m → (u : T (next t)) → k t u ≡ k' t u
  each-unique zero k k' s s' t h = absurd (omega arith)
  each-unique (suc m) k k' {at} {end} {end'} s s' t h =
      ⊎_elim (λ f. subst (λ (v : ℕ). (u : T (next v)) → k v u ≡ k' v u) (sym f) there) (each-unique m k k' c.1 c'.1 t) (last h)
    where
      c : (mid : ℕ) × Spelled bytes (up_to m k) at mid × Spelled bytes (if_next (next m) (λ u. x m (k m u))) mid end
      c = split (up_to m k) s

      c' : (mid : ℕ) × Spelled bytes (up_to m k') at mid × Spelled bytes (if_next (next m) (λ u. x m (k' m u))) mid end'
      c' = split (up_to m k') s'

      e : c'.0 ≡ c.0
      e = same_place (each-accepts m k' c'.1) (each-accepts m k c.1)

      there : (u : T (next m)) → k m u ≡ k' m u
      there u =
          let q : Spelled bytes (if_next (next m) (λ v. x m (k' m v))) c.0 end' =
          subst (λ (p : ℕ). Spelled bytes (if_next (next m) (λ v. x m (k' m v))) p end') e c'.2 in
          ap (λ (f : T (next m) → D m). f u) ((at_next (next m) (law m)).unique (k m) (k' m) c.2 q)

  pub at_each : Faithful bytes (through n next r) AtEach (up_to n)
  at_each = record {
    accepts = each-accepts n;
    proves = each-proves;
    unique = λ k k' s s'. fun_ext (λ t. fun_ext (λ u. each-unique n k k' s s' t (below t u) u));
  }
