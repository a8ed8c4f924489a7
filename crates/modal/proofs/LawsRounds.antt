-- Rounds: what agrees below n stays so, what the code makes of a set is a round of it, and the loop that makes rounds until one changes nothing.
-- The laws of the loop are over any round, so that they serve the four modalities.
--
--     eg-same, af-same, ar-same, eu-same   what counts of sets in a round is below n,
--     rounds-same                          and in as many rounds as there may be
--     eg-turned, af-turned, ar-turned, eu-turned
--                                          the round of each modality, worked out
--     clip-inside                          what is below n of a set is inside the stages
--     loop-start, loop-more                so many rounds of what a closure makes
--     loop-rest                            a round that changes nothing ends the rounds
--     all-rounds                           as many rounds as there are stages
--
-- Assumes nothing.
use Rattle.sets.specs.declared.Set.{Set}
use mathlib.Core.Path.{◌≡◌, refl, sym, ap, ap₂, ◌∙◌, subst}
use mathlib.Core.Bool.{Bool, true, false, not, ◌&&◌, ◌||◌}
use mathlib.Core.List.{List}
use Prim.Native.Nat.{ℕ, zero, suc, ◌+◌, ◌-◌, ◌≤◌}
use native.Mathlib.Nat.{zero-add, suc-add}
use native.Mathlib.Numerals.{add-one}
use native.Mathlib.Omega.{arith}
use lib.Bits.{bit_and, bit_or}
use Rattle.model.specs.Graph.{Graph}
use Rattle.logic.proofs.Successors.{some-next-same, each-next-same}
use Rattle.logic.specs.Test.{Stages, iter, each_next, eg_round, af_round, ar_round, eu_round}
use Rattle.sets.specs.Number.{number}
use Rattle.modal.specs.Row.{member, Inside, Computes}
use Rattle.modal.specs.Modal.{ex_among, ax_among}
use Rattle.modal.specs.Rounds.{Round, Turned, Rounded}
use Rattle.modal.proofs.LawsMember.{Agree, computes-as, clip-agrees, below, member-and, member-or, member-minus}
use Rattle.modal.proofs.LawsMember.{member-all, inside-or, inside-left, inside-right, inside-all}

-- ---- only what is below n counts

module _ (G : Graph) {x y : Stages} (e : Agree G.stages x y) where
  -- Sets that agree on the stages give the same round,
  pub eg-same : Agree G.stages (eg_round G x) (eg_round G y)
  eg-same s h = ap₂ ◌&&◌ (e s h) (some-next-same G x y e s)

  pub af-same : Agree G.stages (af_round G x) (af_round G y)
  af-same s h = ap₂ ◌||◌ (e s h) (each-next-same G x y e s)

  pub ar-same : {a b : Stages} → Agree G.stages a b → Agree G.stages (ar_round G a x) (ar_round G b y)
  ar-same f s h = ap₂ ◌&&◌ (e s h) (ap₂ ◌||◌ (f s h) (each-next-same G x y e s))

  pub eu-same : {a b : Stages} → Agree G.stages a b → Agree G.stages (eu_round G a x) (eu_round G b y)
  eu-same f s h = ap₂ ◌||◌ (e s h) (ap₂ ◌&&◌ (f s h) (some-next-same G x y e s))

  -- and as many of them as there may be.
  pub rounds-same : {f g : Stages → Stages} → ((x y : Stages) → Agree G.stages x y → Agree G.stages (f x) (g y)) → (k : ℕ)
      → Agree G.stages (iter f k x) (iter g k y)
  unfolding iter
  rounds-same same zero = e
  rounds-same same (suc k) = same _ _ (rounds-same same k)

-- ---- a round, worked out

-- What is worked out from x itself, where only what is below n counts, is the round of x.
turned : {next : List Set} {n x y : ℕ} (round : Round) → ((G : Graph) (x y : Stages) → Agree G.stages x y → Agree G.stages (round G x) (round G y))
    → (Inside n x → Computes next n (λ G. round G (member x)) y) → Turned next n round x y
turned {x = x} round same made op c =
    computes-as (λ G R s h. same G (member x) (op G) (λ t l. c.right G R t (omega arith)) s (omega arith)) (made c.inside)

-- What a round need not look at: a stage with a stays,
shrink-asks : (x a e : Bool) → ((x && a) || ((x && not a) && e)) ≡ (x && (a || e))
shrink-asks true true e = refl
shrink-asks true false e = refl
shrink-asks false a e = refl

-- and a stage of x is there already.
grow-asks : (x a e : Bool) → (x || ((a && not x) && e)) ≡ (x || (a && e))
grow-asks true a e = refl
grow-asks false true e = refl
grow-asks false false e = refl

module _ {next : List Set} {n asked found r : ℕ} (a x : ℕ) (op : Graph → Stages) (c : Computes next n (λ G s. member asked s && op G s) found) where
  -- The stages of x that have a or pass the test, and x with the stages that have a and pass it.
  shrunk : {released : ℕ} → r ≡ bit_or released found → released ≡ bit_and x a → asked ≡ x - bit_and x a → Inside n x
      → Computes next n (λ G s. member x s && (member a s || op G s)) r
  shrunk {released} e f g i = record {
    inside = inside-or released found e (inside-left x a f i) c.inside;
    right = λ G R s h.
        member-or released found e s
        ∙ ap₂ ◌||◌ (member-and x a f s) (c.right G R s h ∙ ap (λ (b : Bool). b && op G s) (member-minus x a g s))
        ∙ shrink-asks (member x s) (member a s) (op G s);
  }

  grown : r ≡ bit_or x found → asked ≡ a - bit_and a x → Inside n x → Computes next n (λ G s. member x s || (member a s && op G s)) r
  grown e g i = record {
    inside = inside-or x found e i c.inside;
    right = λ G R s h.
        member-or x found e s
        ∙ ap (◌||◌ (member x s)) (c.right G R s h ∙ ap (λ (b : Bool). b && op G s) (member-minus a x g s))
        ∙ grow-asks (member x s) (member a s) (op G s);
  }

-- So the set y that a closure gives is the round of x, where its last step gives r.
module _ {next : List Set} {n x : ℕ} {y r : Set} (is : y ≡ r) where
  pub eg-turned : Computes next n (ex_among x x) (number r) → Turned next n eg_round x (number y)
  eg-turned c = rw is (turned eg_round (λ G x y e. eg-same G e) (λ i. c))

module _ (a : ℕ) {next : List Set} {n x asked found : ℕ} {y r : Set} (is : y ≡ r) where
  pub ar-turned : {released : ℕ} → number r ≡ bit_or released found → released ≡ bit_and x a → Computes next n (ax_among asked x) found
      → asked ≡ x - bit_and x a → Turned next n (λ G. ar_round G (member a)) x (number y)
  ar-turned e f c g = rw is (turned (λ G. ar_round G (member a)) (λ G x y e. ar-same G e (λ t l. refl)) (shrunk a x _ c e f g))

  pub eu-turned : number r ≡ bit_or x found → Computes next n (ex_among asked x) found → asked ≡ a - bit_and a x
      → Turned next n (λ G. eu_round G (member a)) x (number y)
  eu-turned e c g = rw is (turned (λ G. eu_round G (member a)) (λ G x y e. eu-same G e (λ t l. refl)) (grown a x _ c e g))

module _ {next : List Set} {n x all asked found : ℕ} {y r : Set} (is : y ≡ r) where
  pub af-turned : all ≡ below n → number r ≡ bit_or x found → Computes next n (ax_among asked x) found → asked ≡ all - bit_and all x
      → Turned next n af_round x (number y)
  af-turned f e c g =
      rw is (turned af_round (λ G x y e. af-same G e) (λ i.
      computes-as (λ G R s h. ap (λ (b : Bool). member x s || (b && each_next G (member x) s)) (member-all f R.room s h)) (grown all x _ c e g i)))

-- ---- where the rounds start

-- What is below n of a set is inside the stages.
pub clip-inside : {n all x : ℕ} (b : ℕ) → all ≡ below n → x ≡ bit_and b all → Inside n x
clip-inside {all = all} b f e = inside-right b all e (inside-all f)

-- ---- the loop

module _ {post : Set → Set → Type 0} {n : ℕ} (b : ℕ) where
  -- Before the first round, from what is below n of b.
  pub loop-start : {all x : ℕ} → all ≡ below n → x ≡ bit_and b all → Rounded post n 0 b x
  unfolding iter
  loop-start {all} f e next step m = record { inside = inside-right b all e (inside-all f); right = λ G R s h. clip-agrees b f e R.room s h }

  module _ (k : ℕ) {x y : Set} (c : Rounded post n k b (number x)) (p : post x y) where
    -- A round more.
    pub loop-more : Rounded post n (k + 1) b (number y)
    unfolding iter
    loop-more next step m = rw (add-one k) (m x y p _ (c next step m))

    -- A round that changed nothing: the rounds left would change nothing either.
    still : number x ≡ number y → (i : ℕ) → Rounded post n (i + k) b (number x)
    unfolding iter
    still e zero next step m = rw (zero-add k) (c next step m)
    still e (suc i) next step m =
        rw (suc-add i k)
        (subst (Computes next n (λ G. step G (iter (step G) (i + k) (member b)))) (sym e) (m x y p _ (still e i next step m)))

    pub loop-rest : number x ≡ number y → k ≤ n → Rounded post n n b (number x)
    loop-rest e h = subst (λ (j : ℕ). Rounded post n j b (number x)) (omega arith) (still e (n - k))

-- n rounds are as many as there are stages.
pub all-rounds : {next : List Set} {n x : ℕ} (step : Round) (b : ℕ) → Computes next n (λ G. iter (step G) n (member b)) x
    → Computes next n (λ G. iter (step G) G.stages (member b)) x
all-rounds step b c = computes-as (λ G R s h. ap (λ (j : ℕ). iter (step G) j (member b) s) (sym R.stages)) c
