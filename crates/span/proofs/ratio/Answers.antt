-- `span::ratio` meets its contract. Assumes nothing.
use Rattle.std.proofs.Common.{◌^◌, ◌≤◌, pow_mono, arith}
use Rattle.span.proofs.ratio.Goals as goal

pub returns-in_default : goal.returns-in_default
returns-in_default c =
    let far : 2 ≤ c.args.d = omega (arith, c.in_default) in
    let more : 2 ^ 2 ≤ 2 ^ c.args.d = pow_mono {i = 2} far in
    record { small = omega arith; below = more; exact = λ l. absurd (omega arith) }
