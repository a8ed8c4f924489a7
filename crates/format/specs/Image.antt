-- Document 01, "Stage image": the fields, the graph that they give, and the conditions of the refusals 1 to 5.
use Rattle.std.specs.Prelude.{ℕ, zero, suc, ◌+◌, ◌*◌, ◌≤◌, ◌<◌, ◌≡◌, Bool, ◌&&◌, List, [], ◌∷◌, ◌⊎◌, length, eqb, ltb}
use Rattle.model.specs.Formula.{pick}
use Rattle.model.specs.Graph.{Graph}
use Rattle.sets.specs.Member.{bit, Has, Empty}
use Rattle.sets.specs.Number.{stored}
use Rattle.format.specs.Bytes.{byte_at, Begins}
use Rattle.format.specs.Refusal.{Condition}
use Rattle.format.specs.declared.Refusal.TheVariants as R

-- n and p: how many stages, and how many predicates.
abbrev pub stages_of : List ℕ → ℕ
stages_of image = byte_at image 5

abbrev pub predicates_of : List ℕ → ℕ
predicates_of image = byte_at image 6

-- The arity byte of predicate q.
abbrev pub arity_of : List ℕ → ℕ → ℕ
arity_of image q = byte_at image (7 + q)

-- How many sets a predicate has: one where its arity is 1, n where it is 2.
abbrev pub sets_for : ℕ → ℕ → ℕ
sets_for n arity = pick (eqb arity 2) n 1

-- The number of the first set of predicate q. The n successor sets come first, then each predicate's.
unfoldable pub first_set : List ℕ → ℕ → ℕ
first_set image zero = stages_of image
first_set image (suc q) = first_set image q + sets_for (stages_of image) (arity_of image q)

-- How many sets there are.
abbrev pub sets_in : List ℕ → ℕ
sets_in image = first_set image (predicates_of image)

-- The set with a number. Each takes 8 bytes, and the first stands after the arity bytes.
abbrev pub set_of : List ℕ → ℕ → ℕ
set_of image i = stored image (7 + predicates_of image + 8 * i)

-- The length of an image with these n, p and arities: nothing follows the last set.
abbrev pub length_of : List ℕ → ℕ
length_of image = 7 + predicates_of image + 8 * sets_in image

-- Whether a stage is in a set.
abbrev pub member : ℕ → ℕ → Bool
member s k = eqb (bit s k) 1

-- The graph that an image gives. Successor set s holds the successors of stage s; of a predicate of arity 2, set a holds the b for which
-- P(a, b) is true.
abbrev pub graph_of : List ℕ → Graph
graph_of image =
    record {
      stages = stages_of image;
      next = λ s t. ltb s (stages_of image) && member (set_of image s) t;
      one = λ q a. member (set_of image (first_set image q)) a;
      two = λ q a b. member (set_of image (first_set image q + a)) b;
    }

-- 2 speaks of these ranges.
pub record SizesFit (image : List ℕ) : Type 0 where
  pub some : 1 ≤ stages_of image
  pub stages : stages_of image ≤ 64
  pub predicates : predicates_of image ≤ 16

-- An arity byte that is there and is 1 or 2.
pub record ArityFits (image : List ℕ) (q : ℕ) : Type 0 where
  pub there : 7 + q < length image
  pub arity : (arity_of image q ≡ 1) ⊎ (arity_of image q ≡ 2)

-- Every arity byte is there and is 1 or 2.
abbrev pub AritiesFit : List ℕ → Type 0
AritiesFit image = (q : ℕ) → q < predicates_of image → ArityFits image q

-- 3 speaks of the arity bytes and the total length.
pub record LengthFits (image : List ℕ) : Type 0 where
  pub arities : AritiesFit image
  pub total : length image ≡ length_of image

-- A bit n or above is set in the set with number i.
pub record HighBitIn (image : List ℕ) (i : ℕ) : Type 0 where
  pub stage : ℕ
  pub high : stages_of image ≤ stage
  pub in_set : Has (set_of image i) stage

-- A bit n or above is set in any set.
pub record HighBit (image : List ℕ) : Type 0 where
  pub set : ℕ
  pub one_of : set < sets_in image
  pub at : HighBitIn image set

-- A stage without successor.
pub record DeadStop (image : List ℕ) : Type 0 where
  pub stage : ℕ
  pub below : stage < stages_of image
  pub none : Empty (set_of image stage)

-- The refusals of a stage image, in their order.
abbrev pub image_conditions : List ℕ → List Condition
image_conditions image =
    record { refusal = R.ImageStart; holds = Begins 0x4D 7 image → ⊥ }
    ∷ record { refusal = R.ImageSizes; holds = SizesFit image → ⊥ }
    ∷ record { refusal = R.ImageLength; holds = LengthFits image → ⊥ }
    ∷ record { refusal = R.BitTooHigh; holds = HighBit image }
    ∷ record { refusal = R.NoSuccessor; holds = DeadStop image }
    ∷ []

-- What the code gives for the number of a predicate's first set; two bytes would hold it.
pub record FirstSet (image : List ℕ) (q : ℕ) (r : ℕ) : Type 0 where
  pub is : r ≡ first_set image q
  pub small : r < 65536
