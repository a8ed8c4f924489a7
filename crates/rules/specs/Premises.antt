-- What proves the parts of a formula and the premises of a rule, and with which steps: `Table`'s premises, with derivations in place of names.
-- And what it is for the reading of premises to have come to one of their parts.
use Rattle.std.specs.Prelude.{ℕ, Bool, ◌&&◌, ◌⊎◌, List, [], ◌++◌, T, ltb}
use Rattle.model.specs.Graph.{Graph, Next}
use Rattle.logic.specs.Rules.{Walk, also}
use Rattle.rules.specs.Kind.{Kind}
use Rattle.rules.specs.Table.{Part, a, b, again, Premise, here, there, each, Premises, none, only, both}
use Rattle.rules.specs.Steps.{ascending, at_each, ByKind, steps_by}
use Rattle.rules.specs.Spelled.{Spelled}

-- The successors below t.
abbrev pub earlier : ℕ → (ℕ → Bool) → ℕ → Bool
earlier t next u = ltb u t && next u

-- A formula of kind K in hand, at the stage s of its walk w: p says whether its atom is true, A and B what derives its a and its b at a stage.
module _ (G : Graph) (p : Bool) (A B : ℕ → Type 0) (K : Kind) (w : Walk) (s : ℕ) where
  -- What proves a part at a stage. The formula itself is proved again on the walk with s added.
  abbrev pub OfPart : Part → ℕ → Type 0
  OfPart a t = A t
  OfPart b t = B t
  OfPart again t = ByKind G K p A B (also w s) t

  -- What proves a premise, and what proves all of them.
  abbrev pub OfPremise : Premise → Type 0
  OfPremise (here q) = OfPart q s
  OfPremise (there q c) = OfPart q c
  OfPremise (each q) = (t : ℕ) → Next G s t → OfPart q t

  abbrev pub OfPremises : Premises → Type 0
  OfPremises none = Unit {0}
  OfPremises (only q) = OfPremise q
  OfPremises (both q r) = OfPremise q × OfPremise r

-- Their steps, from those of a and b.
module _ (G : Graph) (p : Bool) {A B : ℕ → Type 0} (x : (s : ℕ) → A s → List ℕ) (y : (s : ℕ) → B s → List ℕ) (K : Kind) (w : Walk) (s : ℕ) where
  abbrev pub part_steps : (q : Part) (t : ℕ) → OfPart G p A B K w s q t → List ℕ
  part_steps a t d = x t d
  part_steps b t d = y t d
  part_steps again t d = steps_by G K p x y (also w s) t d

  abbrev pub premise_steps : (q : Premise) → OfPremise G p A B K w s q → List ℕ
  premise_steps (here q) d = part_steps q s d
  premise_steps (there q c) d = part_steps q c d
  premise_steps (each q) d = at_each G s (λ t n. part_steps q t (d t n))

  abbrev pub premises_steps : (ps : Premises) → OfPremises G p A B K w s ps → List ℕ
  premises_steps none d = []
  premises_steps (only q) d = premise_steps q d
  premises_steps (both q r) d = premise_steps q d.0 ++ premise_steps r d.1

  -- Of the premises, the first of them begun at a place, one comes to a part for which P holds, and all that comes before that part is proved
  -- there. P is told the part, its stage, and the place at which it is begun.
  module _ (bytes : List ℕ) (P : Part → ℕ → ℕ → Type 0) where
    abbrev pub InPremise : Premise → ℕ → Type 0
    InPremise (here q) at = P q s at
    InPremise (there q c) at = P q c at
    InPremise (each q) at =
        (t : ℕ) × Next G s t × (m : ℕ) × (d : (u : ℕ) → T (earlier t (G.next s) u) → OfPart G p A B K w s q u)
        × Spelled bytes (ascending G.stages (earlier t (G.next s)) (λ u n. part_steps q u (d u n))) at m × P q t m

    abbrev pub InPremises : Premises → ℕ → Type 0
    InPremises none at = ⊥
    InPremises (only q) at = InPremise q at
    InPremises (both q r) at =
        InPremise q at ⊎ ((d : OfPremise G p A B K w s q) × (m : ℕ) × Spelled bytes (premise_steps q d) at m × InPremise r m)
