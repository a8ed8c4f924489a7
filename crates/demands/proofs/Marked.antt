-- The marked cases of document 01 come out as it says: one statement, `marked`, on the one table of `specs/Cases`.
use Prim.Native.Nat.{ℕ}
use mathlib.Core.Path.{refl}
use mathlib.Core.List.{List, [], map}
use lib.ListN.{get_or}
use Rattle.checker.proofs.Example as checking
use Rattle.line.specs.Text.{decimal, decimal_within, hex}
use Rattle.reply.proofs.Example as printing
use Rattle.demands.specs.Cases.{All, cases}
use Rattle.demands.proofs.ServiceLaws.{bytes-by}

-- The certificate of a case of the checker's own table, of which the cases 9 to 13 are those from number 7 on.
abbrev certificate_at : ℕ → List ℕ
certificate_at i = get_or (map (λ c. c.certificate) checking.cases) i []

-- One row and the rest.
infixr 4 ◌&◌
◌&◌ : {A B : Type 0} → A → B → A × B
x & y = (x, y)

pub marked : All cases
unfolding printing.cases checking.cases decimal decimal_within hex
marked =
    let p = printing.marked in
    let p5 = p.1.1.1.1 in
    let c9 = (checking.marked).1.1.1.1.1.1.1 in
    (λ b e. (_, p.0 b e))
    & (λ b e. (_, p.1.0 b e))
    & (λ b e. (_, p.1.1.0 b e))
    & (λ b e. (_, p.1.1.1.0 b e))
    & (λ b e. (_, p5.0 b e))
    & (λ b e. (_, p5.1.0 b e))
    & (λ b e. (_, p5.1.1.0 b e))
    & (λ b e. (_, p5.1.1.1.0 b e))
    & (λ b e. (_, p5.1.1.1.1.0 b e))
    & (certificate_at 7, bytes-by (certificate_at 7) tt, refl, _, refl, c9.0)
    & (certificate_at 8, bytes-by (certificate_at 8) tt, refl, _, refl, c9.1.0)
    & (certificate_at 9, bytes-by (certificate_at 9) tt, refl, _, refl, c9.1.1.0)
    & (certificate_at 10, bytes-by (certificate_at 10) tt, refl, _, refl, c9.1.1.1.0)
    & (certificate_at 11, bytes-by (certificate_at 11) tt, refl, _, refl, c9.1.1.1.1.0)
    & (certificate_at 12, bytes-by (certificate_at 12) tt, refl, _, refl, c9.1.1.1.1.1.0)
    & tt
