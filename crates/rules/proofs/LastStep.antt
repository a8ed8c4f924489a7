-- One step of a derivation: its rule, the rule's conditions, and what proves its premises. Every derivation ends in one, is the only one that
-- ends in it, and its steps are the step's. Here the table of rules meets the rules as `logic` has them.
--
--     LastStep, last_steps     a step, and its bytes
--     ended                   the derivation that ends in a step
--     last                    the step in which a derivation ends
--     restored                they undo one another
use Prim.Native.Nat.{ℕ}
use mathlib.Core.Path.{◌≡◌, refl, subst, subst_refl}
use mathlib.Core.Bool.{Bool}
use mathlib.Core.Logic.{inl, inr}
use mathlib.Core.List.{List, ◌++◌}
use lib.Dec.{T}
use Rattle.model.specs.Graph.{Graph}
use Rattle.logic.specs.Rules.{Walk, stop_one, go_one, stop_each, go_each}
use Rattle.rules.specs.Kind.{Kind}
use Rattle.rules.specs.Table.{row, body, begin}
use Rattle.rules.specs.Steps.{ByKind, steps_by}
use Rattle.rules.specs.Premises.{OfPremises, premises_steps}
use Rattle.rules.specs.Reading.{leads, meets}
use Rattle.rules.specs.declared.Rule.{Rule}

-- A step for a formula of kind K, at the stage s of its walk w.
pub record LastStep (G : Graph) (p : Bool) (A B : ℕ → Type 0) (K : Kind) (w : Walk) (s : ℕ) : Type 0 where
  pub rule : Rule
  pub serves : (row rule).kind ≡ K
  pub successor : T (leads G s (row rule).chosen)
  pub condition : T (meets p w s (body rule).condition)
  pub premises : OfPremises G p A B K w s (body rule).premises

module _ (G : Graph) (p : Bool) {A B : ℕ → Type 0} (x : (s : ℕ) → A s → List ℕ) (y : (s : ℕ) → B s → List ℕ) where
  -- Its bytes.
  abbrev pub last_steps : (K : Kind) (w : Walk) (s : ℕ) → LastStep G p A B K w s → List ℕ
  last_steps K w s l = begin l.rule ++ premises_steps G p x y K w s (body l.rule).premises l.premises

  module _ (w : Walk) (s : ℕ) where
    -- A derivation with the bytes of a step by r with the premises d.
    abbrev Ends : Rule → Kind → Type 0
    Ends r K =
        (d : OfPremises G p A B K w s (body r).premises)
        → (e : ByKind G K p A B w s) × (steps_by G K p x y w s e ≡ begin r ++ premises_steps G p x y K w s (body r).premises d)

    -- What each rule derives.
    end : (r : Rule) → T (leads G s (row r).chosen) → T (meets p w s (body r).condition) → Ends r (row r).kind
    end Rule.True n m d = (tt, refl)
    end Rule.Holds n m d = (m, refl)
    end Rule.HoldsNot n m d = (m, refl)
    end Rule.And n m d = (d, refl)
    end Rule.OrLeft n m d = (inl d, refl)
    end Rule.OrRight n m d = (inr d, refl)
    end Rule.Ax n m d = (d, refl)
    end (Rule.Ex c) n m d = ((c, n, d), refl)
    end Rule.AfNow n m d = (stop_each (m, d), refl)
    end Rule.AfLater n m d = (go_each m tt d, refl)
    end (Rule.EgOn c) n m d = (go_one m c n d.0 d.1, refl)
    end Rule.EgMerge n m d = (stop_one m, refl)
    end Rule.ArRelease n m d = (stop_each (inl (m, d.0, d.1)), refl)
    end Rule.ArOn n m d = (go_each m d.0 d.1, refl)
    end Rule.ArMerge n m d = (stop_each (inr m), refl)
    end Rule.EuNow n m d = (stop_one (m, d), refl)
    end (Rule.EuLater c) n m d = (go_one m c n d.0 d.1, refl)

    -- The derivation that ends in a step.
    pub ended : (K : Kind) (l : LastStep G p A B K w s) → (e : ByKind G K p A B w s) × (steps_by G K p x y w s e ≡ last_steps K w s l)
    ended K l = subst (Ends l.rule) l.serves (end l.rule l.successor l.condition) l.premises

    -- a step by a rule
    abbrev by : (r : Rule) → T (leads G s (row r).chosen) → T (meets p w s (body r).condition)
        → OfPremises G p A B (row r).kind w s (body r).premises → LastStep G p A B (row r).kind w s
    by r n m d = record { rule = r; serves = refl; successor = n; condition = m; premises = d }

    -- The step in which a derivation ends.
    pub last : (K : Kind) (e : ByKind G K p A B w s) → (l : LastStep G p A B K w s) × (steps_by G K p x y w s e ≡ last_steps K w s l)
    last Kind.True e = (by Rule.True tt tt tt, refl)
    last Kind.False e = absurd e
    last Kind.Is e = (by Rule.Holds tt e tt, refl)
    last Kind.IsNot e = (by Rule.HoldsNot tt e tt, refl)
    last Kind.And e = (by Rule.And tt tt e, refl)
    last Kind.Or (inl d) = (by Rule.OrLeft tt tt d, refl)
    last Kind.Or (inr d) = (by Rule.OrRight tt tt d, refl)
    last Kind.AX e = (by Rule.Ax tt tt e, refl)
    last Kind.EX e = (by (Rule.Ex e.0) e.1 tt e.2, refl)
    last Kind.AF (stop_each k) = (by Rule.AfNow tt k.0 k.1, refl)
    last Kind.AF (go_each o h k) = (by Rule.AfLater tt o k, refl)
    last Kind.EG (stop_one k) = (by Rule.EgMerge tt k tt, refl)
    last Kind.EG (go_one o c n h k) = (by (Rule.EgOn c) n o (h, k), refl)
    last Kind.AR (stop_each (inl k)) = (by Rule.ArRelease tt k.0 (k.1, k.2), refl)
    last Kind.AR (stop_each (inr k)) = (by Rule.ArMerge tt k tt, refl)
    last Kind.AR (go_each o h k) = (by Rule.ArOn tt o (h, k), refl)
    last Kind.EU (stop_one k) = (by Rule.EuNow tt k.0 k.1, refl)
    last Kind.EU (go_one o c n h k) = (by (Rule.EuLater c) n o (h, k), refl)

    ended_by : (r : Rule) (n : T (leads G s (row r).chosen)) (m : T (meets p w s (body r).condition))
        (d : OfPremises G p A B (row r).kind w s (body r).premises) → (ended (row r).kind (by r n m d)).0 ≡ (end r n m d).0
    unfolding ended
    ended_by r n m d = λ i. (same i d).0
      where
        same : subst (Ends r) (refl {a = (row r).kind}) (end r n m) ≡ end r n m
        same = subst_refl (Ends r) {x = (row r).kind} (end r n m)

    -- A derivation is the one that ends in its last step.
    pub restored : (K : Kind) (e : ByKind G K p A B w s) → (ended K (last K e).0).0 ≡ e
    unfolding end last
    restored Kind.True e = ended_by Rule.True tt tt tt
    restored Kind.False e = absurd e
    restored Kind.Is e = ended_by Rule.Holds tt e tt
    restored Kind.IsNot e = ended_by Rule.HoldsNot tt e tt
    restored Kind.And e = ended_by Rule.And tt tt e
    restored Kind.Or (inl d) = ended_by Rule.OrLeft tt tt d
    restored Kind.Or (inr d) = ended_by Rule.OrRight tt tt d
    restored Kind.AX e = ended_by Rule.Ax tt tt e
    restored Kind.EX e = ended_by (Rule.Ex e.0) e.1 tt e.2
    restored Kind.AF (stop_each k) = ended_by Rule.AfNow tt k.0 k.1
    restored Kind.AF (go_each o h k) = ended_by Rule.AfLater tt o k
    restored Kind.EG (stop_one k) = ended_by Rule.EgMerge tt k tt
    restored Kind.EG (go_one o c n h k) = ended_by (Rule.EgOn c) n o (h, k)
    restored Kind.AR (stop_each (inl k)) = ended_by Rule.ArRelease tt k.0 (k.1, k.2)
    restored Kind.AR (stop_each (inr k)) = ended_by Rule.ArMerge tt k tt
    restored Kind.AR (go_each o h k) = ended_by Rule.ArOn tt o (h, k)
    restored Kind.EU (stop_one k) = ended_by Rule.EuNow tt k.0 k.1
    restored Kind.EU (go_one o c n h k) = ended_by (Rule.EuLater c) n o (h, k)
