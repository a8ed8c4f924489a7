-- Walks over rounds, for any D that says that a walk may be at a stage. All stages are below n.
--
--     kept      in:  where D merges or stays inside, it is at stages that every round of shrinking keeps
--     merged    out: where D may merge, and may go on inside a set, it is at each stage of the set
--     reached   out: where D may stop now, or stop later, it is at each stage that rounds of growing reach, and never comes back to its walk
--
-- Where nothing merges and no walk is kept, `kept` is coinduction and `reached` induction: with a D that does not look at the walk they serve
-- paths and trees.
use Prim.Native.Nat.{ℕ, zero, suc, ◌≤◌, ◌<◌}
use native.Mathlib.Omega.{arith}
use mathlib.Core.Path.{◌≡◌}
use mathlib.Core.Bool.{not}
use mathlib.Core.Logic.{◌⊎◌, inl, inr, ⊎_elim}
use lib.Dec.{T, eqb, eqb→eq, eqb_refl}
use Rattle.logic.specs.Rules.{Walk, empty, also, On, Off}
use Rattle.logic.proofs.Booleans.{T-or, T_not, decide, count, count-max, count-lt}
use Rattle.logic.specs.Test.{Stages, outside, shrink, grow, iter}
use Rattle.logic.proofs.Rounds.{Within, shrink-is, grow-is}

-- What is on the walk with s added is s or was on the walk.
pub also-is : (w : Walk) (s t : ℕ) → On (also w s) t → (t ≡ s) ⊎ On w t
also-is w s t o = ⊎_elim (λ e. inl (eqb→eq t s e)) (λ v. inr v) ((T-or (eqb t s) (w t)).0 o)

-- A walk outside y, with a stage outside y added, is outside y.
also-out : (w : Walk) (s : ℕ) (y : Stages) → ((t : ℕ) → On w t → T (y t) → ⊥) → (T (y s) → ⊥) → (t : ℕ) → On (also w s) t → T (y t) → ⊥
also-out w s y out f t o v = ⊎_elim (λ e. f (rw e at v)) (λ p. out t p v) (also-is w s t o)

-- A stage that a round has added passes the step.
added : (op : Stages → Stages) (y : Stages) (s : ℕ) → T (not (y s)) → T (grow op y s) → T (op y s)
added op y s f t = ⊎_elim (λ v. absurd ((T_not (y s)).0 f v)) (λ v. v) ((grow-is op y s).0 t)

-- A stage off the walk is added: fewer are left off it.
pub fewer-off : (n : ℕ) (w : Walk) (s : ℕ) → s < n → Off w s → count n (outside (also w s)) < count n (outside w)
fewer-off n w s h f = count-lt n (outside (also w s)) (outside w) was s h ((T_not (outside (also w s) s)).1 stands) f
  where
    was : Within n (outside (also w s)) (outside w)
    was u i v = (T_not (w u)).1 (λ o. (T_not (also w s u)).0 v ((T-or (eqb u s) (w u)).1 (inr o)))

    stands : T (outside (also w s) s) → ⊥
    stands v = (T_not (also w s s)).0 v ((T-or (eqb s s) (w s)).1 (inl (eqb_refl s)))

-- D may merge.
abbrev pub Merges : (Walk → ℕ → Type 0) → Type 0
Merges D = (w : Walk) (s : ℕ) → On w s → D w s

module _ (n : ℕ) where
  -- D is on its walk, or at a stage of x that passes the step for any set that holds wherever D goes on.
  abbrev pub MergesOrStays : (Stages → Stages) → Stages → (Walk → ℕ → Type 0) → Type 0
  MergesOrStays op x D =
      (w : Walk) (s : ℕ) → s < n → D w s → On w s ⊎ (T (x s) × ((y : Stages) → ((t : ℕ) → t < n → D (also w s) t → T (y t)) → T (op y s)))

  -- Off the walk, D may go on at a stage of x.
  abbrev pub GoesInside : Stages → (Walk → ℕ → Type 0) → Type 0
  GoesInside x D = (w : Walk) (s : ℕ) → s < n → Off w s → T (x s) → ((t : ℕ) → t < n → T (x t) → D (also w s) t) → D w s

  -- Off the walk, D may stop at a stage of x.
  abbrev pub Stops : Stages → (Walk → ℕ → Type 0) → Type 0
  Stops x D = (w : Walk) (s : ℕ) → s < n → Off w s → T (x s) → D w s

  -- Off the walk, D may go on at a stage that passes the step for a set at whose stages D is.
  abbrev pub GoesOn : (Stages → Stages) → (Walk → ℕ → Type 0) → Type 0
  GoesOn op D = (w : Walk) (s : ℕ) → s < n → Off w s → (y : Stages) → T (op y s) → ((t : ℕ) → t < n → T (y t) → D (also w s) t) → D w s

  -- If the walk so far lies in the k-th round, so does a stage at which D merges or stays.
  kept_on : (op : Stages → Stages) (x : Stages) (D : Walk → ℕ → Type 0) → MergesOrStays op x D → (k : ℕ) (w : Walk) (s : ℕ) → s < n
      → ((t : ℕ) → On w t → T (iter (shrink op) k x t)) → D w s → T (iter (shrink op) k x s)
  unfolding iter
  kept_on op x D goes zero w s h inside d = ⊎_elim (inside s) (λ p. p.0) (goes w s h d)
  kept_on op x D goes (suc k) w s h inside d =
      let y = iter (shrink op) k x in
      let before : (t : ℕ) → On w t → T (y t) = λ t o. ((shrink-is op y t).0 (inside t o)).0 in
      let here : T (y s) = kept_on op x D goes k w s h before d in
      let after : (t : ℕ) → On (also w s) t → T (y t) = λ t o. ⊎_elim (λ e. rw e here) (before t) (also-is w s t o) in
      ⊎_elim (inside s) (λ p. (shrink-is op y s).1 (here, p.1 y (λ t i. kept_on op x D goes k (also w s) t i after))) (goes w s h d)

  -- So every round of shrinking keeps a stage at which D, with an empty walk, merges or stays.
  pub kept : (op : Stages → Stages) (x : Stages) (D : Walk → ℕ → Type 0) → MergesOrStays op x D
      → (s : ℕ) → s < n → D empty s → T (iter (shrink op) n x s)
  kept op x D goes s h d = kept_on op x D goes n empty s h (λ t o. absurd o) d

  -- D goes on inside x until it merges: the stages off the walk become fewer.
  merged_on : (x : Stages) (D : Walk → ℕ → Type 0) → Merges D → GoesInside x D
      → (m : ℕ) (w : Walk) (s : ℕ) → count n (outside w) ≤ m → s < n → T (x s) → D w s
  merged_on x D merge go zero w s c h t = ⊎_elim (merge w s) (λ f. let k = fewer-off n w s h f in absurd (omega arith)) (decide (w s))
  merged_on x D merge go (suc m) w s c h t =
      ⊎_elim (merge w s)
      (λ f. let k = fewer-off n w s h f in go w s h f t (λ u i v. merged_on x D merge go m (also w s) u (omega arith) i v))
      (decide (w s))

  -- So D, with an empty walk, is at each stage of x.
  pub merged : (x : Stages) (D : Walk → ℕ → Type 0) → Merges D → GoesInside x D → (s : ℕ) → s < n → T (x s) → D empty s
  merged x D merge go s h t = merged_on x D merge go n empty s (count-max n (outside empty)) h t

  -- If the walk so far lies outside the k-th round, D is at each stage in it: so it never comes back to the walk.
  reached-on : (op : Stages → Stages) (x : Stages) (D : Walk → ℕ → Type 0) → Stops x D → GoesOn op D → (k : ℕ) (w : Walk) (s : ℕ) → s < n
      → ((t : ℕ) → On w t → T (iter (grow op) k x t) → ⊥) → T (iter (grow op) k x s) → D w s
  unfolding iter
  reached-on op x D now later zero w s h out t = now w s h ((T_not (w s)).1 (λ o. out s o t)) t
  reached-on op x D now later (suc k) w s h out t =
      let y = iter (grow op) k x in
      let off : Off w s = (T_not (w s)).1 (λ o. out s o t) in
      let before : (u : ℕ) → On w u → T (y u) → ⊥ = λ u o v. out u o ((grow-is op y u).1 (inl v)) in
      ⊎_elim (reached-on op x D now later k w s h before)
      (λ f. later w s h off y (added op y s f t)
      (λ u i. reached-on op x D now later k (also w s) u i (also-out w s y before ((T_not (y s)).0 f))))
      (decide (y s))

  -- So D, with an empty walk, is at each stage that rounds of growing reach.
  pub reached : (op : Stages → Stages) (x : Stages) (D : Walk → ℕ → Type 0) → Stops x D → GoesOn op D
      → (s : ℕ) → s < n → T (iter (grow op) n x s) → D empty s
  reached op x D now later s h t = reached-on op x D now later n empty s h (λ u o. absurd o) t
