-- A step, and a whole walk, are read faithfully where the entries of the formula in hand are.
--
--     number-kind           a kind is known by its number
--     head-is, step_is      a rule that stands at a place is read, and then its premises
--     step-law              one step
--     walk-law              a walk, which has fuel for every stage that is off it
use Prim.Native.Nat.{ℕ, zero, suc, ◌<◌}
use native.Mathlib.Decide.{ℕ_discrete}
use native.Mathlib.Omega.{arith}
use mathlib.Core.Path.{◌≡◌, refl, sym, ap, subst, path_j, ◌∙◌}
use mathlib.Core.HLevel.{hedberg}
use mathlib.Core.Bool.{Bool, true, false, not}
use mathlib.Core.List.{List, [], ◌∷◌}
use lib.Dec.{T, T_prop}
use lib.ListN.{get_or}
use Rattle.model.specs.Graph.{Graph, Next, Readable}
use Rattle.logic.specs.Rules.{Walk, also, Off}
use Rattle.logic.proofs.Booleans.{count}
use Rattle.logic.specs.Test.{outside}
use Rattle.logic.proofs.Walks.{fewer-off}
use Rattle.rules.specs.Kind.{Kind, number}
use Rattle.rules.specs.Table.{row, body, begin, Part}
use Rattle.rules.specs.Spelled.{Spelled}
use Rattle.rules.specs.Steps.{ByKind, steps_by}
use Rattle.rules.specs.Premises.{OfPart, OfPremises, part_steps, premises_steps}
use Rattle.rules.specs.Reading.{Reader, headed, asked, parts, leads, meets, read_premises, read_rule, read_step, Progress}
use Rattle.rules.specs.declared.Rule.{Rule}
use Rattle.std.specs.Prelude.{Ok, Err}
use Rattle.rules.specs.Head.{Head, step_by, head_of}
use Rattle.rules.specs.declared.Step.{Step}
use Rattle.rules.specs.declared.Unread.{Unread}
use Rattle.rules.specs.declared.Stop.{Stop}
use Rattle.rules.proofs.Heads.{head_step, head-begins, same_step}
use Rattle.rules.proofs.Rows.{join, split}
use Rattle.rules.proofs.Faithful.{Faithful}
use Rattle.rules.proofs.PremiseLaws.{Ready, ready, PartLaws, premises-law}
use Rattle.rules.proofs.LastStep.{LastStep, last_steps, last, ended, restored}

-- A kind is known by its number.
pub number-kind : (K L : Kind) → number K ≡ number L → K ≡ L
number-kind K L e = sym (listed K) ∙ ap (λ (k : ℕ). get_or kinds k Kind.True) e ∙ listed L
  where
    kinds : List Kind
    kinds =
        Kind.True ∷ Kind.False ∷ Kind.Is ∷ Kind.IsNot ∷ Kind.And ∷ Kind.Or ∷ Kind.AX ∷ Kind.EX ∷ Kind.AF ∷ Kind.EG ∷ Kind.AR ∷ Kind.EU ∷ []

    listed : (K : Kind) → get_or kinds (number K) Kind.True ≡ K
    listed Kind.True = refl
    listed Kind.False = refl
    listed Kind.Is = refl
    listed Kind.IsNot = refl
    listed Kind.And = refl
    listed Kind.Or = refl
    listed Kind.AX = refl
    listed Kind.EX = refl
    listed Kind.AF = refl
    listed Kind.EG = refl
    listed Kind.AR = refl
    listed Kind.EU = refl

-- So kinds are a set.
Kind-set : IsSet Kind
Kind-set = hedberg (λ K L. elim (ℕ_discrete (number K) (number L)) [ yes e ↦ yes (number-kind K L e) | no f ↦ no (λ e. f (ap number e)) ])

-- A condition that was asked passed, or failed.
pub asked-true : (b : Bool) (at : ℕ) (r : Progress) → T b → asked b at r ≡ r
asked-true true at r t = refl
asked-true false at r t = absurd t

pub asked-false : (b : Bool) (at : ℕ) (r : Progress) → T (not b) → asked b at r ≡ Err (Stop.Fails at)
asked-false true at r t = absurd t
asked-false false at r t = refl

asked-at : (b : Bool) (at : ℕ) (r : Progress) {end : ℕ} → asked b at r ≡ Ok end → T b × (r ≡ Ok end)
asked-at true at r e = (tt, e)
asked-at false at r e = absurd (let z : ◌≡◌ {A = ℕ} 0 1 = cc in omega arith)

-- A head that was read to an end is a rule's.
pub headed-at : (h : Head) (at : ℕ) (k : Rule → Reader) {end : ℕ} → headed h at k ≡ Ok end
    → (r : Rule) × (next : ℕ) × (h ≡ Ok (step_by r next)) × (k r next ≡ Ok end)
headed-at (Ok step) at k e = (step.rule, step.next, refl, e)
headed-at (Err Unread.Missing) at k e = absurd (let z : ◌≡◌ {A = ℕ} 0 1 = cc in omega arith)
headed-at (Err Unread.Wrong) at k e = absurd (let z : ◌≡◌ {A = ℕ} 0 1 = cc in omega arith)

-- Where a rule for the kind in hand stands, and has its conditions, the step is read as its premises are.
module _ (bytes : List ℕ) (K : Kind) (r : Rule) (serves : (row r).kind ≡ K) {at next : ℕ} (begins : Spelled bytes (begin r) at next) where
  pub head-is : head_of bytes at (number K) ≡ Ok (step_by r next)
  head-is = subst (λ (k : Kind). head_of bytes at (number k) ≡ Ok (step_by r next)) serves (head_step bytes at r begins)

  pub step_is : (G : Graph) (p : Bool) (of : Part → ℕ → Reader) (w : Walk) (s : ℕ) → T (leads G s (row r).chosen) → T (meets p w s (body r).condition)
      → headed (head_of bytes at (number K)) at (read_rule G p of w s at) ≡ read_premises G of s (body r).premises next
  step_is G p of w s n m =
      ap (λ (h : Head). headed h at (read_rule G p of w s at)) head-is
      ∙ asked-true (leads G s (row r).chosen) at _ n ∙ asked-true (meets p w s (body r).condition) at _ m

-- One step for a formula of kind K, at the stage s of its walk w.
module _ {G : Graph} (R : Readable G) {bytes : List ℕ} {p : Bool} {A B : ℕ → Type 0} {x : (s : ℕ) → A s → List ℕ} {y : (s : ℕ) → B s → List ℕ}
    {K : Kind} {w : Walk} {s : ℕ} {of : Part → ℕ → Reader} (L : PartLaws bytes G p A B x y K w s of) where
  abbrev Last : Type 0
  Last = LastStep G p A B K w s

  abbrev steps : Last → List ℕ
  steps = last_steps G p x y K w s

  abbrev of-premises : (r : Rule) → OfPremises G p A B K w s (body r).premises → List ℕ
  of-premises r = premises_steps G p x y K w s (body r).premises

  -- the reader of one step
  abbrev step : Reader
  step at = headed (head_of bytes at (number K)) at (read_rule G p of w s at)

  rule-law : (r : Rule) → T (leads G s (row r).chosen) → T (meets p w s (body r).condition)
      → Faithful bytes (read_premises G of s (body r).premises) (OfPremises G p A B K w s (body r).premises) (of-premises r)
  rule-law r n m = premises-law R L (body r).premises (ready G w s p r n m)

  step-accepts : (l : Last) {at end : ℕ} → Spelled bytes (steps l) at end → step at ≡ Ok end
  step-accepts l f =
      let m = split (begin l.rule) f in
      step_is bytes K l.rule l.serves m.1 G p of w s l.successor l.condition
      ∙ (rule-law l.rule l.successor l.condition).accepts l.premises m.2

  step-proves : {at end : ℕ} → step at ≡ Ok end → (l : Last) × Spelled bytes (steps l) at end
  step-proves {at} e =
      let h = headed-at (head_of bytes at (number K)) at (read_rule G p of w s at) e in
      let g = head-begins bytes at (number K) h.2 in
      let n = asked-at (leads G s (row h.0).chosen) at _ h.3 in
      let m = asked-at (meets p w s (body h.0).condition) at _ n.1 in
      let d = (rule-law h.0 n.0 m.0).proves m.1 in (
        record {
          rule = h.0;
          serves = number-kind (row h.0).kind K g.1;
          successor = n.0;
          condition = m.0;
          premises = d.0;
        },
        join g.0 d.1,
      )

  -- A step by the same rule, with premises that stand where those of l do, is l.
  same-rule : (l : Last) {mid end end' : ℕ} → Spelled bytes (of-premises l.rule l.premises) mid end
      → {r : Rule} → l.rule ≡ r → (q : (row r).kind ≡ K) (n : T (leads G s (row r).chosen)) (m : T (meets p w s (body r).condition))
      (d : OfPremises G p A B K w s (body r).premises) → Spelled bytes (of-premises r d) mid end'
      → l ≡ (record { rule = r; serves = q; successor = n; condition = m; premises = d })
  same-rule l {mid} {end} {end'} f e =
      path_j (λ r e. (q : (row r).kind ≡ K) (n : T (leads G s (row r).chosen)) (m : T (meets p w s (body r).condition))
      (d : OfPremises G p A B K w s (body r).premises) → Spelled bytes (of-premises r d) mid end'
      → ◌≡◌ {A = Last} l (record { rule = r; serves = q; successor = n; condition = m; premises = d }))
      (λ q n m d g. λ i. record {
        rule = l.rule;
        serves = Kind-set (row l.rule).kind K l.serves q i;
        successor = T_prop (leads G s (row l.rule).chosen) l.successor n i;
        condition = T_prop (meets p w s (body l.rule).condition) l.condition m i;
        premises = (rule-law l.rule l.successor l.condition).unique l.premises d f g i;
      }) e

  step-unique : (l l' : Last) {at end end' : ℕ} → Spelled bytes (steps l) at end → Spelled bytes (steps l') at end' → l ≡ l'
  step-unique l l' {end' = end'} f f' =
      let m = split (begin l.rule) f in
      let m' = split (begin l'.rule) f' in
      let h = same_step (sym (head-is bytes K l.rule l.serves m.1) ∙ head-is bytes K l'.rule l'.serves m'.1) in
      let e : l.rule ≡ l'.rule = ap (λ (s : Step). s.rule) h in
      let g : m'.0 ≡ m.0 = ap (λ (s : Step). s.next) (sym h) in
      same-rule l m.2 e l'.serves l'.successor l'.condition l'.premises
      (subst (λ (q : ℕ). Spelled bytes (of-premises l'.rule l'.premises) q end') g m'.2)

  step-law : Faithful bytes step Last steps
  step-law = record { accepts = step-accepts; proves = step-proves; unique = step-unique }

module _ {G : Graph} (R : Readable G) {bytes : List ℕ} (p : Bool) {A B : ℕ → Type 0} {x : (s : ℕ) → A s → List ℕ} {y : (s : ℕ) → B s → List ℕ}
    {read_a read_b : ℕ → Reader} (law_a : (s : ℕ) → Faithful bytes (read_a s) (A s) (x s)) (law_b : (s : ℕ) → Faithful bytes (read_b s) (B s) (y s))
    (K : Kind) where
  -- The parts of a formula: its entries, and the formula itself, if it is read faithfully further along the walk.
  pub part-laws : (w : Walk) (s : ℕ) (again : ℕ → Reader)
      → (Off w s → (t : ℕ) → Next G s t → Faithful bytes (again t) (ByKind G K p A B (also w s) t) (steps_by G K p x y (also w s) t))
      → PartLaws bytes G p A B x y K w s (parts read_a read_b again)
  part-laws w s again law = record { law = by_part }
    where
      by_part : (q : Part) (t : ℕ) → Ready G w s q t
          → Faithful bytes (parts read_a read_b again q t) (OfPart G p A B K w s q t) (part_steps G p x y K w s q t)
      by_part Part.a t u = law_a t
      by_part Part.b t u = law_b t
      by_part Part.again t u = law u.0 t u.1

  -- A reader of steps reads the derivations that end in them.
  of-last : {w : Walk} {s : ℕ} {read : Reader} → Faithful bytes read (LastStep G p A B K w s) (last_steps G p x y K w s)
      → Faithful bytes read (ByKind G K p A B w s) (steps_by G K p x y w s)
  of-last {w} {s} law = record {
    accepts = λ e f. law.accepts (last G p x y w s K e).0 (its-last e f);
    proves = λ {at} {end} q.
        let m = law.proves q in
        let e = ended G p x y w s K m.0 in
        (e.0, subst (λ (l : List ℕ). Spelled bytes l at end) (sym e.1) m.1);
    unique = λ e e' f f'.
        sym (restored G p x y w s K e)
        ∙ ap (λ (l : LastStep G p A B K w s). (ended G p x y w s K l).0)
        (law.unique (last G p x y w s K e).0 (last G p x y w s K e').0 (its-last e f) (its-last e' f'))
        ∙ restored G p x y w s K e';
  }
    where
      its-last : (e : ByKind G K p A B w s) {at end : ℕ} → Spelled bytes (steps_by G K p x y w s e) at end
          → Spelled bytes (last_steps G p x y K w s (last G p x y w s K e).0) at end
      its-last e {at} {end} f = subst (λ (l : List ℕ). Spelled bytes l at end) (last G p x y w s K e).1 f

  -- A walk: there is fuel for every stage that is off it.
  pub walk-law : (fuel : ℕ) (w : Walk) → count G.stages (outside w) < fuel → (s : ℕ)
      → Faithful bytes (read_step G bytes K p read_a read_b fuel w s) (ByKind G K p A B w s) (steps_by G K p x y w s)
  walk-law zero w h s = absurd (omega arith)
  walk-law (suc fuel) w h s =
      of-last (step-law R (part-laws w s (λ t. read_step G bytes K p read_a read_b fuel (also w s) t)
      (λ o t n. walk-law fuel (also w s) (omega (arith, fewer-off G.stages w s (R.inside s t n).0 o)) t)))
