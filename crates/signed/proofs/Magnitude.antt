-- A signed number of bounded parts fits a word of 64 bits, and one within 2^62 is read back as it is. Assumes nothing.
use Rattle.std.specs.Prelude.{◌≡◌, ℕ, ◌^◌, ◌≤◌, ◌<◌, ℤ, pos, negsuc}
use Rattle.std.proofs.Common.{arith}
use Rattle.std.specs.Int.Signed.{mag}
use Rattle.signed.specs.TwoParts.{up, dn}
use Rattle.signed.specs.Reading.{R}
use Rattle.signed.specs.Magnitude.{Magnitude}
use Rattle.signed.proofs.Back.{back}

pub size : (z : ℤ) → up z < 2 ^ 63 → dn z < 2 ^ 63 → mag z < 2 ^ 63
size (pos n) h k = omega arith
size (negsuc n) h k = omega arith

pub looser : {z : ℤ} {M N : ℕ} → M ≤ N → Magnitude M z → Magnitude N z
looser l h = record { plus = omega (arith, h.plus); minus = omega (arith, h.minus) }

pub fits_word : (z : ℤ) → Magnitude (2 ^ 62) z → mag z < 2 ^ 63
fits_word z h = size z (omega (arith, h.plus)) (omega (arith, h.minus))

pub own : {z : ℤ} → Magnitude (2 ^ 62) z → R z ≡ z
own {z} h = back z (fits_word z h)
