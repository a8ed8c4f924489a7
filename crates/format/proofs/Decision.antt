-- Every condition of document 01 either holds or does not, and which is computed. So of the conditions of a service one is given or none
-- holds, whatever the bytes; "it is not so that it does not fit" is "it fits"; and on bytes that are written out an answer is computed.
use Prim.Native.Nat.{ℕ, zero, suc, ◌+◌, ◌-◌, ◌*◌, ◌≤◌, ◌<◌, ◌^◌}
use native.Mathlib.Omega.{arith}
use mathlib.Core.Path.{◌≡◌, refl, sym, subst}
use mathlib.Core.Bool.{Bool, true, false}
use mathlib.Core.List.{List, [], ◌∷◌, ◌++◌}
use mathlib.Core.Logic.{◌⊎◌, inl, inr, ⊎_elim}
use lib.ListN.{length, get_or}
use lib.Dec.{T, leb, eqb}
use borrow.Author.Tests.{leb-true, leb-false, eqb-true, eqb-false}
use Rattle.std.specs.Prelude.{Option, Some, None, IsSome}
use Rattle.std.proofs.lemmas.Bool.{false≢true}
use Rattle.model.specs.Formula.{Formula, truth, falsity, is, is_not, and, or, AX, EX, AF, EG, AR}
use Rattle.model.specs.Formula.{EU, Term, stage, variable, Atom, one, two, Names, FreeInAtom, Under, Free, nesting}
use Rattle.sets.proofs.LawsMember.{side?, empty-zero, within-lt, has-below, has-lt}
use Rattle.format.proofs.ImageLaws.{outside}
use Rattle.format.proofs.RefusalLaws.{number-injective, number-some}
use Rattle.format.specs.Bytes.{Begins, byte_at, word_at}
use Rattle.format.specs.Refusal.{number, Condition, Given, Clear}
use Rattle.format.specs.Image.{stages_of, predicates_of, arity_of, sets_in, set_of, length_of, SizesFit}
use Rattle.format.specs.Image.{ArityFits, LengthFits, HighBitIn, HighBit, DeadStop, image_conditions}
use Rattle.format.specs.Table.{entries_of, record_at, kind_with, kind_of, sort_of, IsTerm, a_stage, a_variable, SecondTerm, unused, used}
use Rattle.format.specs.Table.{RuledAs, Ruled, operands, tree_of}
use Rattle.format.specs.Table.{EntriesFit, BadRecord, Twice, OperandTwice, NestedTooDeep, table_conditions}
use Rattle.format.specs.Question.{OtherFree, goal_conditions, setup_conditions, question_conditions}
use Rattle.format.specs.declared.Refusal.{Refusal}
use Rattle.format.specs.declared.record.Record.{Record}
use Rattle.format.specs.declared.record.Sort.{Sort}
use Rattle.format.specs.declared.record.Sort.TheVariants as S

-- Numbers.
abbrev by-test : {A : Type 0} (b : Bool) → (b ≡ true → A) → (b ≡ false → A → ⊥) → Dec A
by-test true f g = yes (f refl)
by-test false f g = no (g refl)

abbrev pub le? : (m n : ℕ) → Dec (m ≤ n)
le? m n = by-test (leb m n) (leb-true m n) (λ e h. omega (arith, leb-false m n e))

abbrev pub lt? : (m n : ℕ) → Dec (m < n)
lt? m n = le? (suc m) n

abbrev pub eq? : (m n : ℕ) → Dec (m ≡ n)
eq? m n = by-test (eqb m n) (eqb-true m n) (eqb-false m n)

-- From decisions to decisions.
module _ {A B : Type 0} where
  abbrev pub both? : Dec A → Dec B → Dec (A × B)
  both? (yes a) (yes b) = yes (a, b)
  both? (yes a) (no f) = no (λ p. f p.1)
  both? (no f) d = no (λ p. f p.0)

  abbrev pub either? : Dec A → Dec B → Dec (A ⊎ B)
  either? (yes a) d = yes (inl a)
  either? (no f) (yes b) = yes (inr b)
  either? (no f) (no g) = no (⊎_elim f g)

  abbrev pub same-as : (A → B) → (B → A) → Dec A → Dec B
  same-as f g (yes a) = yes (f a)
  same-as f g (no h) = no (λ b. h (g b))

abbrev pub not? : {A : Type 0} → Dec A → Dec (A → ⊥)
not? (yes a) = no (λ f. f a)
not? (no f) = yes f

-- What is not refuted is so, where it is decided.
pub stable : {A : Type 0} → Dec A → ((A → ⊥) → ⊥) → A
stable (yes a) f = a
stable (no g) f = absurd (f g)

-- A decision computes.
abbrev pub holds? : {A : Type 0} → Dec A → Bool
holds? (yes a) = true
holds? (no f) = false

pub computed : {A : Type 0} (d : Dec A) → T (holds? d) → A
computed (yes a) t = a
computed (no f) t = absurd t

-- Something of every number below n, or of some.
module _ {P : ℕ → Type 0} (p? : (i : ℕ) → Dec (P i)) where
  abbrev pub each? : (n : ℕ) → Dec ((i : ℕ) → i < n → P i)
  each? zero = yes (λ i h. absurd (omega arith))
  each? (suc n) = go (each? n) (p? n)
    where
      go : Dec ((i : ℕ) → i < n → P i) → Dec (P n) → Dec ((i : ℕ) → i < suc n → P i)
      go (yes f) (yes a) = yes (λ i h. elim (lt? i n) [ yes g ↦ f i g | no g ↦ subst P (omega (arith, g)) a ])
      go (yes f) (no g) = no (λ all. g (all n (omega arith)))
      go (no g) d = no (λ all. g (λ i h. all i (omega arith)))

  abbrev pub some? : (n : ℕ) → Dec ((i : ℕ) × (i < n) × P i)
  some? zero = no (λ s. omega (arith, s.1))
  some? (suc n) = go (some? n) (p? n)
    where
      go : Dec ((i : ℕ) × (i < n) × P i) → Dec (P n) → Dec ((i : ℕ) × (i < suc n) × P i)
      go (yes s) d = yes (s.0, omega (arith, s.1), s.2)
      go (no g) (yes a) = yes (n, omega arith, a)
      go (no g) (no f) = no (λ s. elim (lt? s.0 n) [ yes h ↦ g (s.0, h, s.2) | no h ↦ f (subst P (omega (arith, h, s.1)) s.2) ])

-- The conditions of an image.
abbrev pub begins? : (letter least : ℕ) (bytes : List ℕ) → Dec (Begins letter least bytes)
begins? letter least bytes =
    same-as
    (λ p. record { long = p.0; Z = p.1.0; S = p.1.1.0; third = p.1.1.1.0; version = p.1.1.1.1 })
    (λ b. (b.long, (b.Z, (b.S, (b.third, b.version)))))
    (both? (le? least (length bytes))
    (both? (eq? (byte_at bytes 0) 0x5A) (both? (eq? (byte_at bytes 1) 0x53) (both? (eq? (byte_at bytes 2) letter) (eq? (word_at bytes 3) 1)))))

abbrev pub sizes-fit? : (image : List ℕ) → Dec (SizesFit image)
sizes-fit? image =
    same-as
    (λ p. record { some = p.0; stages = p.1.0; predicates = p.1.1 })
    (λ b. (b.some, (b.stages, b.predicates)))
    (both? (le? 1 (stages_of image)) (both? (le? (stages_of image) 64) (le? (predicates_of image) 16)))

abbrev arity-fits? : (image : List ℕ) (q : ℕ) → Dec (ArityFits image q)
arity-fits? image q =
    same-as
    (λ p. record { there = p.0; arity = p.1 })
    (λ a. (a.there, a.arity))
    (both? (lt? (7 + q) (length image)) (either? (eq? (arity_of image q) 1) (eq? (arity_of image q) 2)))

abbrev pub length-fits? : (image : List ℕ) → Dec (LengthFits image)
length-fits? image =
    same-as
    (λ p. record { arities = p.0; total = p.1 })
    (λ l. (l.arities, l.total))
    (both? (each? (arity-fits? image) (predicates_of image)) (eq? (length image) (length_of image)))

abbrev high-bit-in? : (image : List ℕ) (i : ℕ) → Dec (HighBitIn image i)
high-bit-in? image i =
    same-as
    (λ out.
    let found = outside (set_of image i) (2 ^ stages_of image - 1) (λ w. omega (arith, (within-lt (set_of image i) (stages_of image)).0 w)) in
    record {
      stage = found.0;
      high = ⊎_elim (λ h. absurd (found.1.1 ((has-below (stages_of image) found.0).1 h))) (λ h. h) (side? found.0 (stages_of image));
      in_set = found.1.0;
    })
    (λ h.
    ⊎_elim
    (λ low. absurd (omega (arith, has-lt (set_of image i) (stages_of image) h.stage low h.in_set, h.high)))
    (λ up. up)
    (side? (set_of image i) (2 ^ stages_of image)))
    (le? (2 ^ stages_of image) (set_of image i))

abbrev pub high-bit? : (image : List ℕ) → Dec (HighBit image)
high-bit? image =
    same-as (λ s. record { set = s.0; one_of = s.1; at = s.2 }) (λ h. (h.set, h.one_of, h.at)) (some? (high-bit-in? image) (sets_in image))

abbrev pub dead-stop? : (image : List ℕ) → Dec (DeadStop image)
dead-stop? image =
    same-as
    (λ s. record { stage = s.0; below = s.1; none = (empty-zero (set_of image s.0)).1 s.2 })
    (λ d. (d.stage, d.below, (empty-zero (set_of image d.stage)).0 d.none))
    (some? (λ s. eq? (set_of image s) 0) (stages_of image))

-- The conditions of a table.
abbrev pub entries-fit? : (table : List ℕ) → Dec (EntriesFit table)
entries-fit? table =
    same-as
    (λ p. record { some = p.0; most = p.1.0; total = p.1.1 })
    (λ b. (b.some, (b.most, b.total)))
    (both? (le? 1 (entries_of table)) (both? (le? (entries_of table) 64) (eq? (length table) (6 + 6 * entries_of table))))

abbrev term? : (n t : ℕ) → Dec (IsTerm n t)
term? n t =
    same-as
    (⊎_elim a_stage (λ p. a_variable p.0 p.1))
    (elim [ a_stage h ↦ inl h | a_variable h g ↦ inr (h, g) ])
    (either? (lt? t n) (both? (le? 64 t) (le? t 67)))

abbrev second? : (n arity b : ℕ) → Dec (SecondTerm n arity b)
second? n arity b =
    same-as
    (⊎_elim (λ p. unused p.0 p.1) (λ p. used p.0 p.1))
    (elim [ unused f e ↦ inl (f, e) | used e t ↦ inr (e, t) ])
    (either? (both? (not? (eq? arity 2)) (eq? b 0)) (both? (eq? arity 2) (term? n b)))

abbrev ruled-as? : (row : Sort) (image : List ℕ) (e : ℕ) (r : Record) → Dec (RuledAs row image e r)
ruled-as? S.Constant image e r =
    same-as
    (λ p. record { a = p.0; b = p.1.0; x = p.1.1.0; y = p.1.1.1.0; t = p.1.1.1.1 })
    (λ k. (k.a, (k.b, (k.x, (k.y, k.t)))))
    (both? (eq? r.a 0) (both? (eq? r.b 0) (both? (eq? r.x 0) (both? (eq? r.y 0) (eq? r.t 0)))))
ruled-as? S.Atom image e r =
    same-as
    (λ p. record { predicate = p.0; first = p.1.0; second = p.1.1.0; x = p.1.1.1.0; y = p.1.1.1.1 })
    (λ k. (k.predicate, (k.first, (k.second, (k.x, k.y)))))
    (both? (lt? r.a (predicates_of image))
    (both? (term? (stages_of image) r.t)
    (both? (second? (stages_of image) (arity_of image r.a) r.b) (both? (eq? r.x 0) (eq? r.y 0)))))
ruled-as? S.Junction image e r =
    same-as
    (λ p. record { a = p.0; b = p.1.0; x = p.1.1.0; y = p.1.1.1.0; t = p.1.1.1.1 })
    (λ k. (k.a, (k.b, (k.x, (k.y, k.t)))))
    (both? (lt? r.a e) (both? (lt? r.b e) (both? (eq? r.x 0) (both? (eq? r.y 0) (eq? r.t 0)))))
ruled-as? S.Unary image e r =
    same-as
    (λ p. record { a = p.0; b = p.1.0; x = p.1.1.0; y = p.1.1.1.0; t = p.1.1.1.1 })
    (λ k. (k.a, (k.b, (k.x, (k.y, k.t)))))
    (both? (lt? r.a e) (both? (eq? r.b 0) (both? (le? r.x 3) (both? (eq? r.y 0) (term? (stages_of image) r.t)))))
ruled-as? S.Binary image e r =
    same-as
    (λ p. record { a = p.0; b = p.1.0; x = p.1.1.0; y = p.1.1.1.0; t = p.1.1.1.1 })
    (λ k. (k.a, (k.b, (k.x, (k.y, k.t)))))
    (both? (lt? r.a e) (both? (lt? r.b e) (both? (le? r.x 3) (both? (le? r.y 3) (term? (stages_of image) r.t)))))

abbrev there? : {A : Type 0} (o : Option A) → Dec (IsSome o)
there? (Some x) = yes refl
there? None = no false≢true

abbrev pub ruled? : (image : List ℕ) (e : ℕ) (r : Record) → Dec (Ruled image e r)
ruled? image e r =
    same-as (λ p. record { known = p.0; keeps = p.1 }) (λ k. (k.known, k.keeps))
    (both? (there? (kind_with r.kind)) (ruled-as? (sort_of (kind_of r.kind)) image e r))

abbrev pub bad-record? : (image table : List ℕ) → Dec (BadRecord image table)
bad-record? image table =
    same-as
    (λ s. record { entry = s.0; below = s.1; broken = s.2 })
    (λ b. (b.entry, b.below, b.broken))
    (some? (λ e. not? (ruled? image e (record_at table e))) (entries_of table))

abbrev twice? : (row : List ℕ) → Dec (Twice row)
twice? row =
    same-as
    (λ s. record { first = s.2.0; second = s.0; apart = s.2.1; there = s.1; same = s.2.2 })
    (λ t. (t.second, t.there, (t.first, t.apart, t.same)))
    (some? (λ j. some? (λ i. eq? (get_or row i 0) (get_or row j 0)) j) (length row))

abbrev pub operand-twice? : (table : List ℕ) → Dec (OperandTwice table)
operand-twice? table = twice? (operands table (entries_of table))

abbrev pub nested-too-deep? : (image table : List ℕ) → Dec (NestedTooDeep image table)
nested-too-deep? image table =
    same-as
    (λ s. record { entry = s.0; below = s.1; deep = s.2 })
    (λ b. (b.entry, b.below, b.deep))
    (some? (λ e. lt? 4 (nesting (tree_of image table e))) (entries_of table))

-- The conditions of a goal and start.
abbrev names? : (v : ℕ) (t : Term) → Dec (Names v t)
names? v (stage s) = no (λ none. none)
names? v (variable w) = eq? v w

abbrev free-in-atom? : (v : ℕ) (q : Atom) → Dec (FreeInAtom v q)
free-in-atom? v (one q t) = names? v t
free-in-atom? v (two q t u) = either? (names? v t) (names? v u)

abbrev under? : (v x : ℕ) {A : Type 0} → Dec A → Dec (Under v x A)
under? v x d = both? (not? (eq? v x)) d

abbrev pub free? : (v : ℕ) (f : Formula) → Dec (Free v f)
free? v truth = no (λ none. none)
free? v falsity = no (λ none. none)
free? v (is q) = free-in-atom? v q
free? v (is_not q) = free-in-atom? v q
free? v (and a b) = either? (free? v a) (free? v b)
free? v (or a b) = either? (free? v a) (free? v b)
free? v (AX x a t) = either? (names? v t) (under? v x (free? v a))
free? v (EX x a t) = either? (names? v t) (under? v x (free? v a))
free? v (AF x a t) = either? (names? v t) (under? v x (free? v a))
free? v (EG x a t) = either? (names? v t) (under? v x (free? v a))
free? v (AR x a y b t) = either? (names? v t) (either? (under? v x (free? v a)) (under? v y (free? v b)))
free? v (EU x a y b t) = either? (names? v t) (either? (under? v x (free? v a)) (under? v y (free? v b)))

abbrev pub other-free? : (image table : List ℕ) (goal : ℕ) → Dec (OtherFree image table goal)
other-free? image table goal =
    same-as
    (λ s. record { variable = s.0; from = s.2.0; to = omega (arith, s.1); free = s.2.1 })
    (λ o. (o.variable, omega (arith, o.to), (o.from, o.free)))
    (some? (λ v. both? (le? 1 v) (free? v (tree_of image table goal))) 4)

-- Every condition of a row of them is decided.
abbrev pub Decided : List Condition → Type 0
Decided [] = Unit {0}
Decided (c ∷ cs) = Dec c.holds × Decided cs

-- Then one refusal is given, or no condition holds.
abbrev pub outcome : (cs : List Condition) → Decided cs → ((k : Refusal) × Given cs k) ⊎ Clear cs
outcome [] d = inr tt
outcome (c ∷ cs) d = go d.0 (outcome cs d.1)
  where
    go : Dec c.holds → ((k : Refusal) × Given cs k) ⊎ Clear cs → ((k : Refusal) × Given (c ∷ cs) k) ⊎ Clear (c ∷ cs)
    go (yes h) o = inl (c.refusal, inl (refl, h))
    go (no f) (inl g) = inl (g.0, inr (f, g.1))
    go (no f) (inr p) = inr (f, p)

abbrev pub decided-both : (cs ds : List Condition) → Decided cs → Decided ds → Decided (cs ++ ds)
decided-both [] ds p q = q
decided-both (c ∷ cs) ds p q = (p.0, decided-both cs ds p.1 q)

abbrev pub image-decided : (image : List ℕ) → Decided (image_conditions image)
image-decided image = (
  not? (begins? 0x4D 7 image),
  (not? (sizes-fit? image), (not? (length-fits? image), (high-bit? image, (dead-stop? image, tt)))),
)

abbrev pub table-decided : (image table : List ℕ) → Decided (table_conditions image table)
table-decided image table = (
  not? (begins? 0x46 6 table),
  (not? (entries-fit? table), (bad-record? image table, (operand-twice? table, (nested-too-deep? image table, tt)))),
)

abbrev pub goal-decided : (image table : List ℕ) (goal start : ℕ) → Decided (goal_conditions image table goal start)
goal-decided image table goal start =
    (le? (entries_of table) goal, (le? (stages_of image) start, (other-free? image table goal, tt)))

-- Every image, table, goal and start is read to a question or to one refusal.
abbrev pub question-decided : (image table : List ℕ) (goal start : ℕ) → Decided (question_conditions image table goal start)
question-decided image table goal start =
    decided-both (setup_conditions image table) (goal_conditions image table goal start)
    (decided-both (image_conditions image) (table_conditions image table) (image-decided image) (table-decided image table))
    (goal-decided image table goal start)

-- The number of the refusal that is given, 0 where none is: computed from the decisions.
abbrev number-of : {A : Type 0} → Dec A → Refusal → ℕ → ℕ
number-of (yes a) k later = number k
number-of (no f) k later = later

abbrev pub answer : (cs : List Condition) → Decided cs → ℕ
answer [] d = 0
answer (c ∷ cs) d = number-of d.0 c.refusal (answer cs d.1)

pub answer-given : (cs : List Condition) (d : Decided cs) (k : Refusal) → answer cs d ≡ number k → Given cs k
answer-given [] d k e = absurd (number-some k (sym e))
answer-given (c ∷ cs) d k e = go d.0 e (answer-given cs d.1 k)
  where
    go : (t : Dec c.holds) → number-of t c.refusal (answer cs d.1) ≡ number k → (answer cs d.1 ≡ number k → Given cs k) → Given (c ∷ cs) k
    go (yes h) p later = inl (number-injective k c.refusal (sym p), h)
    go (no f) p later = inr (f, later p)

pub answer-clear : (cs : List Condition) (d : Decided cs) → answer cs d ≡ 0 → Clear cs
answer-clear [] d e = tt
answer-clear (c ∷ cs) d e = go d.0 e (answer-clear cs d.1)
  where
    go : (t : Dec c.holds) → number-of t c.refusal (answer cs d.1) ≡ 0 → (answer cs d.1 ≡ 0 → Clear cs) → Clear (c ∷ cs)
    go (yes h) p later = absurd (number-some c.refusal p)
    go (no f) p later = (f, later p)
