-- The premises of a rule break exactly where one of their parts does, all that comes before it being proved.
--
--     in-premises, premises-in      the reading of premises breaks, and `InPremises` of a part that breaks so
--     reached                       the part that `InPremises` speaks of
use Prim.Native.Nat.{ℕ, ◌<◌}
use native.Mathlib.Omega.{arith}
use mathlib.Core.Path.{◌≡◌, sym, ◌∙◌}
use mathlib.Core.Bool.{Bool}
use mathlib.Core.Logic.{inl, inr, ⊎_elim}
use mathlib.Core.List.{List}
use lib.Dec.{T, ltb}
use Rattle.model.specs.Graph.{Graph, Readable}
use Rattle.logic.specs.Rules.{Walk}
use Rattle.logic.proofs.Booleans.{T_and}
use Rattle.rules.specs.Kind.{Kind}
use Rattle.rules.specs.Table.{Part, Premise, here, there, each, Premises, none, only, both}
use Rattle.rules.specs.Steps.{ascending}
use Rattle.rules.specs.Premises.{OfPart, part_steps, earlier, InPremise, InPremises}
use Rattle.rules.specs.Reading.{Reader, through, read_premise, read_premises, Progress}
use Rattle.rules.proofs.Faithful.{Faithful, at_each}
use Rattle.rules.proofs.PremiseLaws.{Ready, ReadyFor, ReadyForAll, PartLaws, premise-law}
use Rattle.rules.proofs.Faults.{IsFault, no-fault, fault-stays, in-first-or-second, in_some, some_in, earlier-ones}

module _ {G : Graph} (R : Readable G) {bytes : List ℕ} {p : Bool} {A B : ℕ → Type 0} {x : (s : ℕ) → A s → List ℕ} {y : (s : ℕ) → B s → List ℕ}
    {K : Kind} {w : Walk} {s : ℕ} {of : Part → ℕ → Reader} (L : PartLaws bytes G p A B x y K w s of) where
  -- The successors below t, which are proved where the reading came to t.
  earlier-law : (q : Part) → ReadyFor G w s (each q) → (t : ℕ)
      → Faithful bytes (through G.stages (earlier t (G.next s)) (of q)) ((k : ℕ) → T (earlier t (G.next s) k) → OfPart G p A B K w s q k)
      (λ d. ascending G.stages (earlier t (G.next s)) (λ k n. part_steps G p x y K w s q k (d k n)))
  earlier-law q a t =
      at_each G.stages (earlier t (G.next s)) (λ k n. (R.inside s k ((T_and (ltb k t) (G.next s k)).0 n).1).1) (of q)
      (part_steps G p x y K w s q) (λ k n. L.law q k (a k ((T_and (ltb k t) (G.next s k)).0 n).1))

  -- Some fault v, and a part whose reading breaks with it.
  module _ (v : Progress) (u : IsFault v) where
    abbrev pub Breaks : Part → ℕ → ℕ → Type 0
    Breaks q t m = of q t m ≡ v

    in-premise : (q : Premise) → ReadyFor G w s q → (at : ℕ) → read_premise G of s q at ≡ v → InPremise G p x y K w s bytes Breaks q at
    in-premise (here q) a at e = e
    in-premise (there q c) a at e = e
    in-premise (each q) a at e =
        let k = in_some (G.next s) (of q) at G.stages e u in
        let d = (earlier-law q a k.0).proves (earlier-ones (G.next s) (of q) at k.0 G.stages (omega arith) ∙ k.4) in
        (k.0, k.1, k.3, d.0, d.1, k.5)

    premise-in : (q : Premise) → ReadyFor G w s q → (at : ℕ) → InPremise G p x y K w s bytes Breaks q at → read_premise G of s q at ≡ v
    premise-in (here q) a at e = e
    premise-in (there q c) a at e = e
    premise-in (each q) a at k =
        let h : k.0 < G.stages = (R.inside s k.0 k.1).1 in
        let e = sym (earlier-ones (G.next s) (of q) at k.0 G.stages (omega arith)) ∙ (earlier-law q a k.0).accepts k.3 k.4 in
        some_in (G.next s) (of q) at G.stages (k.0, k.1, h, k.2, e, k.5) u

    pub in-premises : (ps : Premises) → ReadyForAll G w s ps → (at : ℕ) → read_premises G of s ps at ≡ v → InPremises G p x y K w s bytes Breaks ps at
    in-premises none a at e = absurd (no-fault e u)
    in-premises (only q) a at e = in-premise q a at e
    in-premises (both q r) a at e =
        ⊎_elim (λ f. inl (in-premise q a.0 at f))
        (λ k. let d = (premise-law R L q a.0).proves k.1 in inr (d.0, k.0, d.1, in-premise r a.1 k.0 k.2))
        (in-first-or-second (read_premise G of s q at) (read_premise G of s r) e u)

    pub premises-in : (ps : Premises) → ReadyForAll G w s ps → (at : ℕ) → InPremises G p x y K w s bytes Breaks ps at → read_premises G of s ps at ≡ v
    premises-in none a at k = absurd k
    premises-in (only q) a at k = premise-in q a at k
    premises-in (both q r) a at (inl k) = rw (premise-in q a.0 at k) (fault-stays v (read_premise G of s r) u)
    premises-in (both q r) a at (inr k) = rw ((premise-law R L q a.0).accepts k.0 k.2) (premise-in r a.1 k.1 k.3)

-- What `InPremises` says, whatever P is.
module _ (G : Graph) (p : Bool) {A B : ℕ → Type 0} (x : (s : ℕ) → A s → List ℕ) (y : (s : ℕ) → B s → List ℕ)
    (K : Kind) (w : Walk) (s : ℕ) (bytes : List ℕ) where
  -- The part of which it is said: whatever else holds of that part can be said in its place.
  abbrev Where : (Part → ℕ → ℕ → Type 0) → ((Part → ℕ → ℕ → Type 0) → Type 0) → Type 1
  Where P Said = (q : Part) × (t : ℕ) × (m : ℕ) × Ready G w s q t × P q t m × ((Q : Part → ℕ → ℕ → Type 0) → Q q t m → Said Q)

  reached-in : (P : Part → ℕ → ℕ → Type 0) (q : Premise) → ReadyFor G w s q → (at : ℕ) → InPremise G p x y K w s bytes P q at
      → Where P (λ Q. InPremise G p x y K w s bytes Q q at)
  reached-in P (here q) a at k = (q, s, at, a, k, λ Q l. l)
  reached-in P (there q c) a at k = (q, c, at, a, k, λ Q l. l)
  reached-in P (each q) a at k = (q, k.0, k.2, a k.0 k.1, k.5, λ Q l. (k.0, k.1, k.2, k.3, k.4, l))

  pub reached : (P : Part → ℕ → ℕ → Type 0) (ps : Premises) → ReadyForAll G w s ps → (at : ℕ) → InPremises G p x y K w s bytes P ps at
      → Where P (λ Q. InPremises G p x y K w s bytes Q ps at)
  reached P none a at k = absurd k
  reached P (only q) a at k = reached-in P q a at k
  reached P (both q r) a at (inl k) =
      let f = reached-in P q a.0 at k in (f.0, f.1, f.2, f.3, f.4, λ Q l. inl (f.5 Q l))
  reached P (both q r) a at (inr k) =
      let f = reached-in P r a.1 k.1 k.3 in (f.0, f.1, f.2, f.3, f.4, λ Q l. inr (k.0, k.1, k.2, f.5 Q l))
