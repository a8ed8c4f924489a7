-- The steps of a derivation are bytes: a code is below 17, and a chosen stage is one of the graph's, which has no more than a byte can count.
use Prim.Native.Nat.{ℕ, zero, suc, ◌≤◌, ◌<◌}
use native.Mathlib.Omega.{arith}
use mathlib.Core.Bool.{Bool, true, false}
use mathlib.Core.List.{List, [], ◌∷◌, ◌++◌}
use mathlib.Core.Logic.{inl, inr, ⊎_elim}
use lib.Dec.{T, lit<}
use Rattle.model.specs.Graph.{Graph, Next, Readable}
use Rattle.model.specs.Formula.{Formula, truth, falsity, is, is_not, and, or, AX, EX, AF, EG, AR, EU, Env, bind, value, atom}
use Rattle.logic.specs.Rules.{Walk, empty, ReleaseOrMerge, One, Each, stop_one, go_one, stop_each, go_each, Derived}
use Rattle.rules.specs.Kind.{Kind}
use Rattle.rules.specs.Table.{begin}
use Rattle.rules.specs.Steps.{if_next, ascending, no_steps, at_each, one_steps, each_steps, ByKind, steps_by, encode}
use Rattle.rules.specs.declared.Rule.{Rule}
use Rattle.checker.specs.Certificate.{Bytes}

pub bytes-append : (xs ys : List ℕ) → Bytes xs → Bytes ys → Bytes (xs ++ ys)
bytes-append [] ys p q = q
bytes-append (x ∷ xs) ys p q = (p.0, bytes-append xs ys p.1 q)

-- The steps at each successor.
if-bytes : (b : Bool) (f : T b → List ℕ) → ((h : T b) → Bytes (f h)) → Bytes (if_next b f)
if-bytes true f each = each tt
if-bytes false f each = tt

ascending-bytes : (n : ℕ) (next : ℕ → Bool) (f : (t : ℕ) → T (next t) → List ℕ) → ((t : ℕ) (h : T (next t)) → Bytes (f t h)) → Bytes (ascending n next f)
ascending-bytes zero next f each = tt
ascending-bytes (suc t) next f each =
    bytes-append (ascending t next f) (if_next (next t) (f t)) (ascending-bytes t next f each) (if-bytes (next t) (f t) (each t))

module _ {G : Graph} (R : Readable G) (small : G.stages ≤ 256) where
  -- A chosen successor is a byte.
  choice : (s c : ℕ) → Next G s c → c < 256
  choice s c h = omega (arith, (R.inside s c h).1, small)

  -- The two sorts of walks.
  module _ {Stop : Walk → ℕ → Type 0} {Here : ℕ → Type 0} (stop : (w : Walk) (s : ℕ) → Stop w s → List ℕ) (here : (s : ℕ) → Here s → List ℕ)
      (stops : (w : Walk) (s : ℕ) (k : Stop w s) → Bytes (stop w s k)) (heres : (s : ℕ) (h : Here s) → Bytes (here s h)) where
    one-bytes : (on : ℕ → Rule) → ((c : ℕ) → c < 256 → Bytes (begin (on c))) → {w : Walk} {s : ℕ} (d : One G Stop Here w s)
        → Bytes (one_steps G stop on here d)
    one-bytes on ons (stop_one {w} {s} k) = stops w s k
    one-bytes on ons (go_one {w} {s} o c n h k) =
        bytes-append (begin (on c) ++ here s h) (one_steps G stop on here k)
        (bytes-append (begin (on c)) (here s h) (ons c (choice s c n)) (heres s h)) (one-bytes on ons k)

    each-bytes : (on : Rule) → Bytes (begin on) → {w : Walk} {s : ℕ} (d : Each G Stop Here w s) → Bytes (each_steps G stop on here d)
    each-bytes on ons (stop_each {w} {s} k) = stops w s k
    each-bytes on ons (go_each {w} {s} o h k) =
        bytes-append (begin on ++ here s h) (at_each G s (λ t n. each_steps G stop on here (k t n))) (bytes-append (begin on) (here s h) ons (heres s h))
        (ascending-bytes G.stages (G.next s) (λ t n. each_steps G stop on here (k t n)) (λ t n. each-bytes on ons (k t n)))

  -- An entry that a formula does not have has no steps.
  none : (s : ℕ) (d : ⊥) → Bytes (no_steps s d)
  none s d = absurd d

  -- A formula of a kind, from its a and its b.
  module _ (p : Bool) {A B : ℕ → Type 0} (a : (s : ℕ) → A s → List ℕ) (b : (s : ℕ) → B s → List ℕ) (of-a : (s : ℕ) (u : A s) → Bytes (a s u))
      (of-b : (s : ℕ) (u : B s) → Bytes (b s u)) where
    kind-bytes : (K : Kind) (w : Walk) (s : ℕ) (d : ByKind G K p A B w s) → Bytes (steps_by G K p a b w s d)
    kind-bytes Kind.True w s d = (lit< tt, tt)
    kind-bytes Kind.False w s d = tt
    kind-bytes Kind.Is w s d = (lit< tt, tt)
    kind-bytes Kind.IsNot w s d = (lit< tt, tt)
    kind-bytes Kind.And w s d = (lit< tt, bytes-append (a s d.0) (b s d.1) (of-a s d.0) (of-b s d.1))
    kind-bytes Kind.Or w s (inl u) = (lit< tt, of-a s u)
    kind-bytes Kind.Or w s (inr u) = (lit< tt, of-b s u)
    kind-bytes Kind.AX w s d = (lit< tt, ascending-bytes G.stages (G.next s) (λ t n. a t (d t n)) (λ t n. of-a t (d t n)))
    kind-bytes Kind.EX w s d = (lit< tt, (choice s d.0 d.1, of-a d.0 d.2))
    kind-bytes Kind.AF w s d = each-bytes _ (λ u h. []) (λ v u k. (lit< tt, of-a u k.1)) (λ u h. tt) Rule.AfLater (lit< tt, tt) d
    kind-bytes Kind.EG w s d = one-bytes _ _ (λ v u k. (lit< tt, tt)) of-a Rule.EgOn (λ c h. (lit< tt, (h, tt))) d
    kind-bytes Kind.AR w s d = each-bytes _ _ stops of-b Rule.ArOn (lit< tt, tt) d
      where
        stops : (v : Walk) (u : ℕ) (k : ReleaseOrMerge A B v u)
            → Bytes (⊎_elim (λ r. begin Rule.ArRelease ++ a u r.1 ++ b u r.2) (λ o. begin Rule.ArMerge) k)
        stops v u (inl r) = (lit< tt, bytes-append (a u r.1) (b u r.2) (of-a u r.1) (of-b u r.2))
        stops v u (inr o) = (lit< tt, tt)
    kind-bytes Kind.EU w s d = one-bytes _ _ (λ v u k. (lit< tt, of-b u k.1)) of-a Rule.EuLater (λ c h. (lit< tt, (h, tt))) d

  -- Every formula's steps.
  pub encode-bytes : (f : Formula) (e : Env) (d : Derived G f e) → Bytes (encode G f e d)
  encode-bytes truth e d = kind-bytes true no_steps no_steps none none Kind.True empty 0 d
  encode-bytes falsity e d = absurd d
  encode-bytes (is q) e d = kind-bytes (atom G e q) no_steps no_steps none none Kind.Is empty 0 d
  encode-bytes (is_not q) e d = kind-bytes (atom G e q) no_steps no_steps none none Kind.IsNot empty 0 d
  encode-bytes (and f g) e d = kind-bytes true (λ s. encode G f e) (λ s. encode G g e) (λ s. encode-bytes f e) (λ s. encode-bytes g e) Kind.And empty 0 d
  encode-bytes (or f g) e d = kind-bytes true (λ s. encode G f e) (λ s. encode G g e) (λ s. encode-bytes f e) (λ s. encode-bytes g e) Kind.Or empty 0 d
  encode-bytes (AX x f t) e d =
      kind-bytes true (λ s. encode G f (bind e x s)) no_steps (λ s. encode-bytes f (bind e x s)) none Kind.AX empty (value e t) d
  encode-bytes (EX x f t) e d =
      kind-bytes true (λ s. encode G f (bind e x s)) no_steps (λ s. encode-bytes f (bind e x s)) none Kind.EX empty (value e t) d
  encode-bytes (AF x f t) e d =
      kind-bytes true (λ s. encode G f (bind e x s)) no_steps (λ s. encode-bytes f (bind e x s)) none Kind.AF empty (value e t) d
  encode-bytes (EG x f t) e d =
      kind-bytes true (λ s. encode G f (bind e x s)) no_steps (λ s. encode-bytes f (bind e x s)) none Kind.EG empty (value e t) d
  encode-bytes (AR x f y g t) e d =
      kind-bytes true (λ s. encode G f (bind e x s)) (λ s. encode G g (bind e y s)) (λ s. encode-bytes f (bind e x s)) (λ s. encode-bytes g (bind e y s))
      Kind.AR empty (value e t) d
  encode-bytes (EU x f y g t) e d =
      kind-bytes true (λ s. encode G f (bind e x s)) (λ s. encode G g (bind e y s)) (λ s. encode-bytes f (bind e x s)) (λ s. encode-bytes g (bind e y s))
      Kind.EU empty (value e t) d
