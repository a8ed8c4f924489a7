-- The premises of a rule are read faithfully where the parts of the formula in hand are.
--
--     Ready, ready         what is known of a part when its turn comes; each rule's conditions say it
--     PartLaws             the parts are read faithfully
--     premises-law         so are the premises of a rule
use Prim.Native.Nat.{ℕ}
use mathlib.Core.Bool.{Bool}
use mathlib.Core.List.{List}
use lib.Dec.{T}
use Rattle.model.specs.Graph.{Graph, Next, Readable}
use Rattle.logic.specs.Rules.{Walk, Off}
use Rattle.rules.specs.Kind.{Kind}
use Rattle.rules.specs.Table.{row, body, Part, Premise, here, there, each, Premises, none, only, both}
use Rattle.rules.specs.Premises.{OfPart, OfPremise, OfPremises, part_steps, premise_steps, premises_steps}
use Rattle.rules.specs.Reading.{Reader, leads, meets, read_premise, read_premises}
use Rattle.rules.specs.declared.Rule.{Rule}
use Rattle.rules.proofs.Faithful.{Faithful, at_once, in-turn, at_each}

-- What is known of a part at a stage when its turn comes: of the formula itself, that s is off its walk and the stage a successor.
module _ (G : Graph) (w : Walk) (s : ℕ) where
  abbrev pub Ready : Part → ℕ → Type 0
  Ready Part.a t = Unit {0}
  Ready Part.b t = Unit {0}
  Ready Part.again t = Off w s × Next G s t

  abbrev pub ReadyFor : Premise → Type 0
  ReadyFor (here q) = Ready q s
  ReadyFor (there q c) = Ready q c
  ReadyFor (each q) = (t : ℕ) → Next G s t → Ready q t

  abbrev pub ReadyForAll : Premises → Type 0
  ReadyForAll none = Unit {0}
  ReadyForAll (only q) = ReadyFor q
  ReadyForAll (both q r) = ReadyFor q × ReadyFor r

  -- Each rule's conditions say it of its premises.
  pub ready : (p : Bool) (r : Rule) → T (leads G s (row r).chosen) → T (meets p w s (body r).condition) → ReadyForAll (body r).premises
  ready p Rule.True n m = tt
  ready p Rule.Holds n m = tt
  ready p Rule.HoldsNot n m = tt
  ready p Rule.And n m = (tt, tt)
  ready p Rule.OrLeft n m = tt
  ready p Rule.OrRight n m = tt
  ready p Rule.Ax n m = λ t u. tt
  ready p (Rule.Ex c) n m = tt
  ready p Rule.AfNow n m = tt
  ready p Rule.AfLater n m = λ t u. (m, u)
  ready p (Rule.EgOn c) n m = (tt, (m, n))
  ready p Rule.EgMerge n m = tt
  ready p Rule.ArRelease n m = (tt, tt)
  ready p Rule.ArOn n m = (tt, λ t u. (m, u))
  ready p Rule.ArMerge n m = tt
  ready p Rule.EuNow n m = tt
  ready p (Rule.EuLater c) n m = (tt, (m, n))

-- The parts of a formula of kind K, at the stage s of its walk w, are read faithfully by the readers `of`.
pub record PartLaws (bytes : List ℕ) (G : Graph) (p : Bool) (A B : ℕ → Type 0) (x : (s : ℕ) → A s → List ℕ) (y : (s : ℕ) → B s → List ℕ)
    (K : Kind) (w : Walk) (s : ℕ) (of : Part → ℕ → Reader) : Type 0 where
  pub law : (q : Part) (t : ℕ) → Ready G w s q t → Faithful bytes (of q t) (OfPart G p A B K w s q t) (part_steps G p x y K w s q t)

module _ {G : Graph} (R : Readable G) {bytes : List ℕ} {p : Bool} {A B : ℕ → Type 0} {x : (s : ℕ) → A s → List ℕ} {y : (s : ℕ) → B s → List ℕ}
    {K : Kind} {w : Walk} {s : ℕ} {of : Part → ℕ → Reader} (L : PartLaws bytes G p A B x y K w s of) where
  -- So is a premise,
  pub premise-law : (q : Premise) → ReadyFor G w s q
      → Faithful bytes (read_premise G of s q) (OfPremise G p A B K w s q) (premise_steps G p x y K w s q)
  premise-law (here q) u = L.law q s u
  premise-law (there q c) u = L.law q c u
  premise-law (each q) u =
      at_each G.stages (G.next s) (λ t n. (R.inside s t n).1) (of q) (part_steps G p x y K w s q) (λ t n. L.law q t (u t n))

  -- and so are all premises.
  pub premises-law : (ps : Premises) → ReadyForAll G w s ps
      → Faithful bytes (read_premises G of s ps) (OfPremises G p A B K w s ps) (premises_steps G p x y K w s ps)
  premises-law none u = at_once
  premises-law (only q) u = premise-law q u
  premises-law (both q r) u = in-turn (premise-law q u.0) (premise-law r u.1)
