-- What a yes or no of the code says: true that a statement holds, false that it does not. A contract cites it as `Decides r P`.
use Rattle.std.specs.Prelude.{◌≡◌, Bool, true, false, not}
use Rattle.std.proofs.Common.{subst}
use Rattle.std.proofs.lemmas.Bool.{not-true, not-false}

abbrev pub Decides : Bool → Type 0 → Type 0
Decides true P = P
Decides false P = P → ⊥

-- What a caller's test of the answer tells: the test itself, and its negation.
pub decided : {r : Bool} (P : Type 0) → Decides r P → r ≡ true → P
decided P d e = subst (λ (b : Bool). Decides b P) e d

pub refuted : {r : Bool} (P : Type 0) → Decides r P → r ≡ false → P → ⊥
refuted P d e = subst (λ (b : Bool). Decides b P) e d

pub granted : (r : Bool) (P : Type 0) → Decides r P → not r ≡ false → P
granted r P d e = decided P d (not-false r e)

pub denied : (r : Bool) (P : Type 0) → Decides r P → not r ≡ true → P → ⊥
denied r P d e = refuted P d (not-true r e)
