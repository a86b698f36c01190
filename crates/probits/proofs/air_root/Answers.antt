-- `probits::air_root` meets its contract. Assumes nothing.
use native.Mathlib.Omega.{arith}
use Rattle.exact.specs.Fraction.{whole, ◌⊗◌, power}
use Rattle.enclosure.specs.PowerWindows.{quarters}
use Rattle.probits.proofs.Powers.{standard_root}
use Rattle.probits.proofs.air_root.Goals as goal

pub returns-then-air-eq-STANDARD_AIR : goal.returns-then-air-eq-STANDARD_AIR
unfolding quarters power whole ◌⊗◌
returns-then-air-eq-STANDARD_AIR c =
    standard_root {j = 22} c.requires c.if-air-eq-STANDARD_AIR.true (omega arith) (omega arith) (omega arith)
