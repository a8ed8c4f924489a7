-- Two results that meet the contract of a function of this crate are one. Where a contract is an equation there is nothing to show.
use Prim.Native.Nat.{ℕ}
use mathlib.Core.Path.{◌≡◌, sym, ap, ◌∙◌}
use mathlib.Core.Logic.{⊎_elim}
use lib.ListN.{length}
use lib.Seq.{ext_get_or}
use Rattle.model.specs.Formula.{Env as Environment}
use Rattle.sets.proofs.LawsMember.{side?}
use Rattle.hand.specs.Environment.{env_of, Bound}
use Rattle.hand.specs.declared.env.Env.{Env}

-- Two values of the four variables that one binding gives are one.
pub bound-once : (env : Env) (x s : ℕ) (a b : Env) → length a.slots ≡ 4 → length b.slots ≡ 4 → Bound env x s a → Bound env x s b → a ≡ b
unfolding env_of
bound-once env x s a b la lb p q =
    ⊎_elim (λ h. same (p.here h ∙ sym (q.here h))) (λ h. p.none h ∙ sym (q.none h)) (side? x 4)
  where
    same : env_of a ≡ env_of b → a ≡ b
    same e = λ i. record { slots = ext_get_or 0 a.slots b.slots (la ∙ sym lb) (λ v h. ap (λ (c : Environment). c v) e) i }
