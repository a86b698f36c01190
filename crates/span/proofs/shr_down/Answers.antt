-- `span::shr_down` meets its contract: a quotient by 2^d, or 0 where 2^d is above every mantissa. Assumes nothing.
use Rattle.std.proofs.Common.{◌≡◌, ℕ, ◌/◌, ◌^◌, ◌≤◌, ◌<◌, Option, Some, None, ◌∙◌, pow_pos, pow_mono, arith}
use Rattle.std.proofs.Math.Nat.{div-le_self}
use Rattle.std.specs.Option.{SomeIff, unwrap_or}
use Rattle.span.specs.Rounding.{ShiftedDown}
use Rattle.span.specs.Powers.{quotient}
use Rattle.span.proofs.shr_down.Goals as goal

shifted : (m d r : ℕ) (o : Option ℕ) → m < 2 ^ 32 → SomeIff o (d < 64) (m / 2 ^ d) → r ≡ unwrap_or o 0 → ShiftedDown m d r
shifted m d r (Some x) l h e =
    let q = quotient m (2 ^ d) (pow_pos d) in rw (e ∙ h.1) (record { small = div-le_self m (2 ^ d); below = q.0; near = q.1 })
shifted m d r None l h e =
    let far : 2 ^ 32 ≤ 2 ^ d = pow_mono {i = 32} (omega (arith, h)) in rw e (record { small = omega arith; below = omega arith; near = omega arith })

pub returns : goal.returns
returns c =
    shifted _ _ _ _ c.requires c.checked_shr.ensures c.unwrap_or.ensures
