-- Known values of the definitions, computed: around zero the lower end goes down and the upper end up. Assumes nothing.
use Rattle.std.specs.Prelude.{◌≡◌, refl, pos, negsuc}
use Rattle.fixed.specs.FloorAndCeiling.{floor_z, ceil_z}
use Rattle.fixed.specs.Millis.{floor_milli, ceil_milli}
use Rattle.fixed.specs.ProductSteps.{lowest_z}

-- 7/6 and -7/6
above_zero : (floor_z (pos 7) 6 ≡ pos 1) × (ceil_z (pos 7) 6 ≡ pos 2)
above_zero = (refl, refl)

below-zero : (floor_z (negsuc 6) 6 ≡ negsuc 1) × (ceil_z (negsuc 6) 6 ≡ negsuc 0)
below-zero = (refl, refl)

-- whole quotients stay
whole : (floor_z (negsuc 11) 6 ≡ negsuc 1) × (ceil_z (negsuc 11) 6 ≡ negsuc 1) × (ceil_z (pos 0) 6 ≡ pos 0)
whole = (refl, refl, refl)

-- from -1/2^30 to 1/2^30 there are the thousandths -1 to 1; from -2.6695 to -2.6694 there are -2670 to -2669
around_zero : (floor_milli (record { lo = negsuc 0; hi = pos 1 }) ≡ negsuc 0) × (ceil_milli (record { lo = negsuc 0; hi = pos 1 }) ≡ pos 1)
unfolding floor_milli ceil_milli
around_zero = (refl, refl)

negative_probit : (floor_milli (record { lo = negsuc 2866353799; hi = negsuc 2866246424 }) ≡ negsuc 2669)
    × (ceil_milli (record { lo = negsuc 2866353799; hi = negsuc 2866246424 }) ≡ negsuc 2668)
unfolding floor_milli ceil_milli
negative_probit = (refl, refl)

-- of -2 to 3 and -5 to 7 the least product is 3 · -5
least_product : lowest_z (record { lo = negsuc 1; hi = pos 3 }) (record { lo = negsuc 4; hi = pos 7 }) ≡ negsuc 14
least_product = refl
