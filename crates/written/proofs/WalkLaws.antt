-- What is written for a formula in hand is the steps of a derivation whose rules are chosen as document 01 says, where what is written for its entries
-- is. First the successors in their order, then one law for each kind. A walk has fuel for every stage off it and one more, and each step that goes on
-- adds a stage to it, so the fuel lasts.
--
--     through-ascending                          the steps at each successor
--     Proves                                     an entry's steps are those of derivations that are ours
--     Derives                                    some derivation of a kind that is ours has the steps
--     and-derives, or-derives                    a and b; a where it holds, else b
--     ax-derives, ex-derives                     a at each successor; at the lowest one with a
--     af-derives, eu-derives                     these never come back to the walk
--     eg-derives, ar-derives                     these merge
use Prim.Native.Nat.{ℕ, zero, suc, ◌≤◌, ◌<◌}
use native.Mathlib.Nat.{not-suc-le-zero}
use native.Mathlib.Omega.{arith}
use mathlib.Core.Path.{◌≡◌, refl, ap, ap₂}
use mathlib.Core.Bool.{Bool, true, false, not, ◌&&◌, ◌||◌}
use mathlib.Core.Logic.{inl, inr, ⊎_elim}
use mathlib.Core.List.{List, ◌++◌}
use lib.Dec.{T}
use Rattle.model.specs.Graph.{Graph, Next, Readable}
use Rattle.logic.specs.Meaning.{OnSomeAlways}
use Rattle.logic.specs.Rules.{Walk, empty, also, On, Off, stop_one, go_one, stop_each, go_each}
use Rattle.logic.proofs.Booleans.{T_and, T-or, T_not, decide, count, count-max}
use Rattle.logic.specs.Test.{Stages, outside, iter, each_next, some_next, eg, af, ar, eu}
use Rattle.logic.proofs.Walks.{also-is, fewer-off, Merges, GoesInside, Stops, GoesOn, merged, reached}
use Rattle.logic.proofs.Successors.{each_next_lem, some_next_lem, eg-on, ar-on}
use Rattle.logic.proofs.Compare.{Says}
use Rattle.logic.proofs.TestMeaning.{eg-means}
use Rattle.rules.specs.Kind.{Kind}
use Rattle.rules.specs.Table.{begin, body}
use Rattle.rules.specs.Steps.{if_next, ascending, at_each, ByKind, steps_by}
use Rattle.rules.specs.declared.Rule.{Rule}
use Rattle.written.specs.Choice.{if_so, lowest_next, within, fewest, nearest}
use Rattle.written.specs.Chosen.{Chosen, OursBy}
use Rattle.written.specs.Written.{Entry, visit, through, parts, premises, along}
use Rattle.written.proofs.LowestLaws.{lowest-next, within-suc, within_more, nearest-near}
use Rattle.written.proofs.WayLaws.{lowest-in, nearest-is-nearest}

-- The steps at a stage, where it is a successor.
visited : (b : Bool) (f : T b → List ℕ) (l : List ℕ) → ((u : T b) → f u ≡ l) → if_next b f ≡ visit b l
visited true f l h = h tt
visited false f l h = refl

-- The steps at each successor below n, ascending.
pub through-ascending : (n : ℕ) (next : ℕ → Bool) (f : (t : ℕ) → T (next t) → List ℕ) (g : ℕ → List ℕ)
    → ((t : ℕ) (u : T (next t)) → f t u ≡ g t) → ascending n next f ≡ through n next g
through-ascending zero next f g h = refl
through-ascending (suc n) next f g h = ap₂ ◌++◌ (through-ascending n next f g h) (visited (next n) (f n) (g n) (h n))

-- Of two rules one is taken by a test.
pub taken-by : (P : Rule → Type 0) (b : Bool) (r q : Rule) → (T b → P r) → (T (not b) → P q) → P (if_so b r q)
taken-by P true r q f g = f tt
taken-by P false r q f g = g tt

-- What there is to say of an entry at a stage: that it holds, what derives it, that this is ours, and its steps.
pub record Meant : Type 1 where
  pub holds : ℕ → Type 0
  pub derived : ℕ → Type 0
  pub ours : (s : ℕ) → derived s → Type 0
  pub steps : (s : ℕ) → derived s → List ℕ

-- Below n the test of the entry E says that it holds; and where it does, its steps are those of something of ours that derives it.
pub record Proves (n : ℕ) (E : Entry) (M : Meant) : Type 0 where
  pub says : Says n E.holds M.holds
  pub at : (s : ℕ) → s < n → T (E.holds s) → (d : M.derived s) × M.ours s d × (M.steps s d ≡ E.steps s)

-- Some derivation of a kind that is ours, at the stage s of the walk w, has the steps l.
abbrev pub Derives : (G : Graph) (M N : Meant) → Kind → Walk → ℕ → List ℕ → Type 0
Derives G M N K w s l =
    (d : ByKind G K true M.derived N.derived w s) × OursBy G K true M.holds N.holds M.ours N.ours w s d
    × (steps_by G K true M.steps N.steps w s d ≡ l)

module _ {G : Graph} (R : Readable G) (A B : Entry) (M N : Meant) (of-a : Proves G.stages A M) (of-b : Proves G.stages B N) where
  -- The steps that are written, with any fuel that is enough for the stages off the walk.
  abbrev Enough : Kind → Walk → ℕ → Type 0
  Enough K w s = (fuel : ℕ) → count G.stages (outside w) < fuel → Derives G M N K w s (along G K A B fuel w s)

  -- The steps of a rule, with the fuel that is left.
  abbrev By : Kind → Walk → ℕ → ℕ → Rule → Type 0
  By K w s fuel r =
      Derives G M N K w s (begin r ++ premises G (parts A.steps B.steps (λ t. along G K A B fuel (also w s) t)) s (body r).premises)

  -- There is fuel for this step, and what is left is enough for the walk with the stage added.
  one-step : (K : Kind) (w : Walk) (s : ℕ) → s < G.stages
      → ((fuel : ℕ) → (Off w s → count G.stages (outside (also w s)) < fuel) → Derives G M N K w s (along G K A B (suc fuel) w s)) → Enough K w s
  one-step K w s h step zero c = absurd (not-suc-le-zero c)
  one-step K w s h step (suc fuel) c = step fuel (λ o. omega (arith, fewer-off G.stages w s h o))

  -- At its start a walk has fuel enough.
  started-off : (K : Kind) (s : ℕ) → Enough K empty s → Derives G M N K empty s (along G K A B (suc G.stages) empty s)
  started-off K s d = d (suc G.stages) (omega (arith, count-max G.stages (outside empty)))

  -- The steps of the formula again, at each successor.
  each_again : (K : Kind) (w : Walk) (s fuel : ℕ) (at : (t : ℕ) → Next G s t → Derives G M N K (also w s) t (along G K A B fuel (also w s) t))
      → at_each G s (λ t e. steps_by G K true M.steps N.steps (also w s) t (at t e).0)
      ≡ through G.stages (G.next s) (λ t. along G K A B fuel (also w s) t)
  each_again K w s fuel at = through-ascending G.stages (G.next s) _ (λ t. along G K A B fuel (also w s) t) (λ t e. (at t e).2)

  -- What the test of a says at a stage, and what it does not say where it does not pass.
  a-holds : (s : ℕ) → s < G.stages → T (A.holds s) → M.holds s
  a-holds s h = (of-a.says.at s h).0

  a-not : (s : ℕ) → s < G.stages → T (not (A.holds s)) → M.holds s → ⊥
  a-not s h f m = (T_not (A.holds s)).0 f ((of-a.says.at s h).1 m)

  -- And: a and b.
  pub and-derives : (s : ℕ) → s < G.stages → T (A.holds s && B.holds s)
      → Derives G M N Kind.And empty s (along G Kind.And A B (suc G.stages) empty s)
  and-derives s h t =
      let u = (T_and (A.holds s) (B.holds s)).0 t in
      let d = of-a.at s h u.0 in
      let e = of-b.at s h u.1 in
      ((d.0, e.0), (refl, d.1, e.1), ap₂ (λ (l m : List ℕ). begin Rule.And ++ l ++ m) d.2 e.2)

  -- Or: left where a holds; else right.
  pub or-derives : (s : ℕ) → s < G.stages → T (A.holds s || B.holds s)
      → Derives G M N Kind.Or empty s (along G Kind.Or A B (suc G.stages) empty s)
  or-derives s h t =
      taken-by (By Kind.Or empty s G.stages) (A.holds s) Rule.OrLeft Rule.OrRight
      (λ v. let d = of-a.at s h v in (inl d.0, (inl (a-holds s h v, refl), d.1), ap (λ (l : List ℕ). begin Rule.OrLeft ++ l) d.2))
      (λ f. let v = ⊎_elim (λ v. absurd ((T_not (A.holds s)).0 f v)) (λ v. v) ((T-or (A.holds s) (B.holds s)).0 t) in
      let d = of-b.at s h v in
      (inr d.0, (inr (a-not s h f, refl), d.1), ap (λ (l : List ℕ). begin Rule.OrRight ++ l) d.2))

  -- AX: a at each successor.
  pub ax-derives : (s : ℕ) → s < G.stages → T (each_next G A.holds s) → Derives G M N Kind.AX empty s (along G Kind.AX A B (suc G.stages) empty s)
  ax-derives s h t =
      let at : (u : ℕ) → Next G s u → (d : M.derived u) × M.ours u d × (M.steps u d ≡ A.steps u) =
      λ u e. of-a.at u (R.inside s u e).1 ((each_next_lem R A.holds s).0 t u e) in (
        λ u e. (at u e).0,
        (refl, λ u e. (at u e).1),
        ap (λ (l : List ℕ). begin Rule.Ax ++ l)
            (through-ascending G.stages (G.next s) (λ u e. M.steps u (at u e).0) A.steps (λ u e. (at u e).2)),
      )

  -- EX: a at the lowest successor with a.
  pub ex-derives : (s : ℕ) → s < G.stages → T (some_next G A.holds s) → Derives G M N Kind.EX empty s (along G Kind.EX A B (suc G.stages) empty s)
  ex-derives s h t =
      let c = lowest_next G A.holds s in
      let some = (some_next_lem R A.holds s).0 t in
      let u = lowest-next R A.holds s some in
      let d = of-a.at c (R.inside s c u.0).1 u.1 in
      ((c, u.0, d.0), ((c, refl, lowest-in R of-a.says s some), d.1), ap (λ (l : List ℕ). begin (Rule.Ex c) ++ l) d.2)

  -- AF: now where a holds; else AF at each successor.
  pub af-derives : (s : ℕ) → s < G.stages → T (af G A.holds s) → Derives G M N Kind.AF empty s (along G Kind.AF A B (suc G.stages) empty s)
  af-derives s h t = started-off Kind.AF s (reached G.stages (each_next G) A.holds (Enough Kind.AF) stops goes s h t)
    where
      by : (w : Walk) (u : ℕ) → u < G.stages → Off w u → (fuel : ℕ) → (T (not (A.holds u)) → By Kind.AF w u fuel Rule.AfLater)
          → Derives G M N Kind.AF w u (along G Kind.AF A B (suc fuel) w u)
      by w u i o fuel later =
          taken-by (By Kind.AF w u fuel) (A.holds u) Rule.AfNow Rule.AfLater
          (λ v. let d = of-a.at u i v in
          (stop_each (o, d.0), (inl (a-holds u i v, refl), d.1), ap (λ (l : List ℕ). begin Rule.AfNow ++ l) d.2))
          later

      stops : Stops G.stages A.holds (Enough Kind.AF)
      stops w u i o v = one-step Kind.AF w u i (λ fuel more. by w u i o fuel (λ f. absurd ((T_not (A.holds u)).0 f v)))

      goes : GoesOn G.stages (each_next G) (Enough Kind.AF)
      goes w u i o z v rest =
          one-step Kind.AF w u i (λ fuel more. by w u i o fuel (λ f.
          let at : (r : ℕ) → Next G u r → Derives G M N Kind.AF (also w u) r (along G Kind.AF A B fuel (also w u) r) =
          λ r e. rest r (R.inside u r e).1 ((each_next_lem R z u).0 v r e) fuel (more o) in (
            go_each o tt (λ r e. (at r e).0),
            (inr (a-not u i f, refl), λ r e. (at r e).1),
            ap (λ (l : List ℕ). begin Rule.AfLater ++ l) (each_again Kind.AF w u fuel at),
          )))

  -- EG: merge on the walk; else a here, and EG at the lowest successor at which it holds.
  pub eg-derives : (s : ℕ) → s < G.stages → T (eg G A.holds s) → Derives G M N Kind.EG empty s (along G Kind.EG A B (suc G.stages) empty s)
  eg-derives s h t = started-off Kind.EG s (merged G.stages In (Enough Kind.EG) merges goes s h t)
    where
      In : Stages
      In = eg G A.holds

      by : (w : Walk) (u fuel : ℕ) → (Off w u → By Kind.EG w u fuel (Rule.EgOn (lowest_next G In u)))
          → Derives G M N Kind.EG w u (along G Kind.EG A B (suc fuel) w u)
      by w u fuel on = taken-by (By Kind.EG w u fuel) (w u) Rule.EgMerge (Rule.EgOn (lowest_next G In u)) (λ o. (stop_one o, inl (o, refl), refl)) on

      merges : Merges (Enough Kind.EG)
      merges w u o zero c = absurd (not-suc-le-zero c)
      merges w u o (suc fuel) c = by w u fuel (λ f. absurd ((T_not (w u)).0 f o))

      goes : GoesInside G.stages In (Enough Kind.EG)
      goes w u i o v rest = one-step Kind.EG w u i (λ fuel more. by w u fuel (λ f. on fuel (more o)))
        where
          on : (fuel : ℕ) → count G.stages (outside (also w u)) < fuel → By Kind.EG w u fuel (Rule.EgOn (lowest_next G In u))
          on fuel more =
              let c = lowest_next G In u in
              let k = eg-on R A.holds u i v in
              let n = lowest-next R In u k.1 in
              let d = of-a.at u i k.0 in
              let r = rest c (R.inside u c n.0).1 n.1 fuel more in
              let says : Says G.stages In (OnSomeAlways G M.holds) = record { at = eg-means R A.holds M.holds of-a.says } in (
                go_one o c n.0 d.0 r.0,
                ((inr ((T_not (w u)).0 o, (c, refl, lowest-in R says u k.1)), d.1), r.1),
                ap₂ (λ (l m : List ℕ). begin (Rule.EgOn c) ++ l ++ m) d.2 r.2,
              )

  -- AR: merge on the walk; else release where a holds; else b here, and AR at each successor.
  pub ar-derives : (s : ℕ) → s < G.stages → T (ar G A.holds B.holds s)
      → Derives G M N Kind.AR empty s (along G Kind.AR A B (suc G.stages) empty s)
  ar-derives s h t = started-off Kind.AR s (merged G.stages In (Enough Kind.AR) merges goes s h t)
    where
      In : Stages
      In = ar G A.holds B.holds

      by : (w : Walk) (u fuel : ℕ) → (Off w u → By Kind.AR w u fuel (if_so (A.holds u) Rule.ArRelease Rule.ArOn))
          → Derives G M N Kind.AR w u (along G Kind.AR A B (suc fuel) w u)
      by w u fuel on =
          taken-by (By Kind.AR w u fuel) (w u) Rule.ArMerge (if_so (A.holds u) Rule.ArRelease Rule.ArOn)
          (λ o. (stop_each (inr o), inl (o, refl), refl)) on

      merges : Merges (Enough Kind.AR)
      merges w u o zero c = absurd (not-suc-le-zero c)
      merges w u o (suc fuel) c = by w u fuel (λ f. absurd ((T_not (w u)).0 f o))

      goes : GoesInside G.stages In (Enough Kind.AR)
      goes w u i o v rest =
          one-step Kind.AR w u i (λ fuel more. by w u fuel
          (λ f. taken-by (By Kind.AR w u fuel) (A.holds u) Rule.ArRelease Rule.ArOn (release fuel) (on fuel (more o))))
        where
          here : (d : N.derived u) × N.ours u d × (N.steps u d ≡ B.steps u)
          here = of-b.at u i (ar-on R A.holds B.holds u i v).0

          release : (fuel : ℕ) → T (A.holds u) → By Kind.AR w u fuel Rule.ArRelease
          release fuel a =
              let d = of-a.at u i a in (
                stop_each (inl (o, d.0, here.0)),
                (inr ((T_not (w u)).0 o, inl (a-holds u i a, refl)), d.1, here.1),
                ap₂ (λ (l m : List ℕ). begin Rule.ArRelease ++ l ++ m) d.2 here.2,
              )

          on : (fuel : ℕ) → count G.stages (outside (also w u)) < fuel → T (not (A.holds u)) → By Kind.AR w u fuel Rule.ArOn
          on fuel more f =
              let each = ⊎_elim (λ a. absurd ((T_not (A.holds u)).0 f a)) (λ g. g) (ar-on R A.holds B.holds u i v).1 in
              let at : (r : ℕ) → Next G u r → Derives G M N Kind.AR (also w u) r (along G Kind.AR A B fuel (also w u) r) =
              λ r e. rest r (R.inside u r e).1 (each r e) fuel more in (
                go_each o here.0 (λ r e. (at r e).0),
                ((inr ((T_not (w u)).0 o, inr (a-not u i f, refl)), here.1), λ r e. (at r e).1),
                ap₂ (λ (l m : List ℕ). begin Rule.ArOn ++ l ++ m) here.2 (each_again Kind.AR w u fuel at),
              )

  -- EU: now where b holds; else a here, and EU at the nearest successor.
  eu-by : (w : Walk) (s : ℕ) → s < G.stages → Off w s → (fuel : ℕ)
      → (T (not (B.holds s)) → By Kind.EU w s fuel (Rule.EuLater (nearest G A.holds B.holds s)))
      → Derives G M N Kind.EU w s (along G Kind.EU A B (suc fuel) w s)
  eu-by w s h o fuel later =
      taken-by (By Kind.EU w s fuel) (B.holds s) Rule.EuNow (Rule.EuLater (nearest G A.holds B.holds s))
      (λ v. let d = of-b.at s h v in
      (stop_one (o, d.0), (inl ((of-b.says.at s h).0 v, refl), d.1), ap (λ (l : List ℕ). begin Rule.EuNow ++ l) d.2))
      later

  -- A step that goes on at the chosen successor c, where a here and EU at c have their steps.
  eu-later : (w : Walk) (s : ℕ) → Off w s → (fuel : ℕ) → (d : M.derived s) × M.ours s d × (M.steps s d ≡ A.steps s) → (c : ℕ) → Next G s c
      → Chosen G Kind.EU M.holds N.holds w s (Rule.EuLater c)
      → Derives G M N Kind.EU (also w s) c (along G Kind.EU A B fuel (also w s) c) → By Kind.EU w s fuel (Rule.EuLater c)
  eu-later w s o fuel d c n chosen r =
      (go_one o c n d.0 r.0, ((chosen, d.1), r.1), ap₂ (λ (l m : List ℕ). begin (Rule.EuLater c) ++ l ++ m) d.2 r.2)

  -- The nearest successor is chosen where EU holds and b does not.
  eu-chosen : (w : Walk) (s : ℕ) → s < G.stages → T (not (B.holds s)) → T (eu G A.holds B.holds s)
      → Chosen G Kind.EU M.holds N.holds w s (Rule.EuLater (nearest G A.holds B.holds s))
  eu-chosen w s h f t =
      let none : T (B.holds s) → ⊥ = (T_not (B.holds s)).0 f in
      let near = nearest-is-nearest R A.holds B.holds M.holds N.holds of-a.says of-b.says s none t in
      inr (λ v. none ((of-b.says.at s h).1 v), (nearest G A.holds B.holds s, refl, (fewest G A.holds B.holds s, near)))

  -- If the walk so far lies outside the stages at most k steps from a now, what is written from each of those is the steps of a derivation: the nearest
  -- successor is fewer steps from a now than s and than every stage on the walk, so it is not on the walk.
  eu-on : (k : ℕ) → k ≤ G.stages → (w : Walk) (s : ℕ) → s < G.stages → ((t : ℕ) → On w t → T (within G A.holds B.holds k t) → ⊥)
      → T (within G A.holds B.holds k s) → Enough Kind.EU w s
  unfolding iter
  eu-on zero m w s h out t =
      one-step Kind.EU w s h (λ fuel more. eu-by w s h ((T_not (w s)).1 (λ o. out s o t)) fuel (λ f. absurd ((T_not (B.holds s)).0 f t)))
  eu-on (suc k) m w s h out t =
      let a = A.holds in
      let b = B.holds in
      let off : Off w s = (T_not (w s)).1 (λ o. out s o t) in
      let before : (u : ℕ) → On w u → T (within G a b k u) → ⊥ = λ u o v. out u o ((within-suc G a b k u).1 (inl v)) in
      ⊎_elim (eu-on k (omega arith) w s h before)
      (λ f. one-step Kind.EU w s h (λ fuel more. eu-by w s h off fuel (λ g.
      let p = ⊎_elim (λ v. absurd ((T_not (within G a b k s)).0 f v)) (λ v. v) ((within-suc G a b k s).0 t) in
      let n = nearest-near R a b s k m p.1 in
      let c = nearest G a b s in
      let after : (u : ℕ) → On (also w s) u → T (within G a b k u) → ⊥ =
      λ u o v. ⊎_elim (λ e. (T_not (within G a b k s)).0 f (rw e at v)) (λ q. before u q v) (also-is w s u o) in
      eu-later w s off fuel (of-a.at s h p.0) c n.0 (eu-chosen w s h g (within_more G a b (suc k) G.stages m s t))
      (eu-on k (omega arith) (also w s) c (R.inside s c n.0).1 after n.1 fuel (more off)))))
      (decide (within G a b k s))

  pub eu-derives : (s : ℕ) → s < G.stages → T (eu G A.holds B.holds s)
      → Derives G M N Kind.EU empty s (along G Kind.EU A B (suc G.stages) empty s)
  eu-derives s h t = started-off Kind.EU s (eu-on G.stages (omega arith) empty s h (λ u o. absurd o) t)
