-- An old case that passes test 16 does so in each field. Assumes nothing.
use Rattle.std.specs.Prelude.{◌≡◌, false}
use Rattle.refusals.proofs.laws.Order.{none_of}
use Rattle.doubles.specs.Doubles.{unusable}
use Rattle.old_case.specs.declared.OldCase.{OldCase}
use Rattle.old_case.specs.Cases.{unusable_in}

pub record Usable (o : OldCase) : Type 0 where
  pub mass : unusable o.mass ≡ false
  pub mean : unusable o.mean ≡ false
  pub stoichiometric : unusable o.stoichiometric ≡ false
  pub heat : unusable o.heat ≡ false
  pub distance : unusable o.distance ≡ false
  pub body : unusable o.body ≡ false

pub usable : (o : OldCase) → unusable_in o ≡ false → Usable o
unfolding unusable_in
usable o h =
    let n = none_of (unusable o.mass) (unusable o.mean) (unusable o.stoichiometric) (unusable o.heat) (unusable o.distance) (unusable o.body) h in
    record { mass = n.0; mean = n.1; stoichiometric = n.2; heat = n.3; distance = n.4; body = n.5 }
