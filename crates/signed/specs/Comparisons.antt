-- What a comparison of two signed numbers says of their parts. Assumes nothing.
use Rattle.std.specs.Prelude.{◌≡◌, true, false, ◌+◌, ◌≤◌, ◌<◌, ℤ, pos, negsuc}
use Rattle.std.proofs.Common.{true≢false, arith, ltb-true, ltb-false, leb-true, leb-false}
use Rattle.std.proofs.lemmas.Bool.{false≢true}
use Rattle.std.specs.Int.Signed.{lt_z, le_z}
use Rattle.signed.specs.TwoParts.{up, dn}

pub less : (x y : ℤ) → lt_z x y ≡ true → up x + dn y < up y + dn x
less (pos a) (pos b) e = omega (arith, ltb-true a b e)
less (pos a) (negsuc b) e = absurd (false≢true e)
less (negsuc a) (pos b) e = omega arith
less (negsuc a) (negsuc b) e = omega (arith, ltb-true b a e)

pub not-less : (x y : ℤ) → lt_z x y ≡ false → up y + dn x ≤ up x + dn y
not-less (pos a) (pos b) e = omega (arith, ltb-false a b e)
not-less (pos a) (negsuc b) e = omega arith
not-less (negsuc a) (pos b) e = absurd (true≢false e)
not-less (negsuc a) (negsuc b) e = omega (arith, ltb-false b a e)

pub at_most : (x y : ℤ) → le_z x y ≡ true → up x + dn y ≤ up y + dn x
at_most (pos a) (pos b) e = omega (arith, leb-true a b e)
at_most (pos a) (negsuc b) e = absurd (false≢true e)
at_most (negsuc a) (pos b) e = omega arith
at_most (negsuc a) (negsuc b) e = omega (arith, leb-true b a e)

pub above : (x y : ℤ) → le_z x y ≡ false → up y + dn x < up x + dn y
above (pos a) (pos b) e = omega (arith, leb-false a b e)
above (pos a) (negsuc b) e = omega arith
above (negsuc a) (pos b) e = absurd (true≢false e)
above (negsuc a) (negsuc b) e = omega (arith, leb-false b a e)
