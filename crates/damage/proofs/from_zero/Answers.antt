-- `damage::from_zero` meets its contract: what fits an unsigned word is itself, and nothing below zero does. Assumes nothing.
use Rattle.std.proofs.Common.{◌≡◌, ℕ, ◌^◌, ◌<◌, ℤ, pos, negsuc, ◌∙◌, unsigned_abs, Result, Ok, Err, arith}
use lib.Signed.{mag}
use Rattle.std.specs.Int.{FitsUnsignedBits}
use Rattle.std.specs.Result.{OkIff, result_unwrap_or}
use Rattle.signed.proofs.Back.{back}
use Rattle.damage.specs.laws.Readings.{from_zero}
use Rattle.damage.proofs.from_zero.Goals as goal

read : {E : Type 0} (z : ℤ) (r : Result ℕ E) (n : ℕ) → mag z < 2 ^ 63 → OkIff r (FitsUnsignedBits 64 z) (unsigned_abs z) → n ≡ result_unwrap_or r 0 → n ≡ from_zero z
unfolding from_zero
read (pos a) (Ok x) n f h e = e ∙ h.1
read (pos a) (Err x) n f h e = absurd (h (omega arith))
read (negsuc a) (Ok x) n f h e = absurd h.0
read (negsuc a) (Err x) n f h e = e

pub returns : goal.returns
returns c =
    let p = c.args.probit in
    let s = c.ranges.probit.sfits in
    let same = back p s in
    read p _ _ s (rw same at c.try_from.ensures) c.unwrap_or.ensures
