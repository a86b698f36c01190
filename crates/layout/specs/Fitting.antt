-- What the writers of probits ask: ends that fit 32 bits in two's complement.
use Rattle.std.specs.Prelude.{ℤ, ◌^◌, ◌<◌}
use Rattle.std.specs.Int.Signed.{mag}
use Rattle.layout.specs.declared.Five.{Five}
use Rattle.layout.specs.declared.Interval.{Interval}

pub record Fits (p : Interval ℤ) : Type 0 where
  pub lower : mag p.lower < 2 ^ 31
  pub upper : mag p.upper < 2 ^ 31

pub record Fit (p : Five (Interval ℤ)) : Type 0 where
  pub first : Fits p.first
  pub second : Fits p.second
  pub third : Fits p.third
  pub fourth : Fits p.fourth
  pub fifth : Fits p.fifth
