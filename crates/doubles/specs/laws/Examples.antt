-- Doubles worked by hand: halves go up, minus zero is zero, and the limits themselves pass. All by computation. Assumes nothing.
use Rattle.std.specs.Prelude.{ℕ, ◌≡◌, refl, true, false, Float}
use Rattle.std.specs.Float.{binary64}
use Rattle.std.specs.Float.Ieee.{of_bits, to_bits, lt, of_int, round}
use Rattle.doubles.specs.Doubles.{unusable, rounded, nearest}

-- the double of a bit pattern
abbrev pub double : ℕ → Float
double b = of_bits binary64 b

pub record Examples : Type 0 where
  -- 0.25 times 10 is 2.5, and 0.75 times 10 is 7.5: a half goes up, not to the even one
  pub quarter : rounded 10 (double 0x3fd0_0000_0000_0000) ≡ 3
  pub three_quarters_lem : rounded 10 (double 0x3fe8_0000_0000_0000) ≡ 8
  -- 0.1 is a little above a tenth
  pub tenth : rounded 1000 (double 0x3fb9_9999_9999_999a) ≡ 100
  -- the greatest double below 0.0005 is below a half of a thousandth, and 0.0005 itself is above it
  pub below_half : rounded 1000 (double 0x3f40_624d_d2f1_a9fb) ≡ 0
  pub half : rounded 1000 (double 0x3f40_624d_d2f1_a9fc) ≡ 1
  -- minus zero is zero; the smallest double below zero is below zero
  pub minus_zero_lem : unusable (double 0x8000_0000_0000_0000) ≡ false
  pub minus_zero_whole : rounded 1000 (double 0x8000_0000_0000_0000) ≡ 0
  pub least_below : unusable (double 0x8000_0000_0000_0001) ≡ true
  pub least_above : rounded 1000 (double 1) ≡ 0
  -- 1,000,000,000 passes, and the next double does not
  pub billion : unusable (double 0x41cd_cd65_0000_0000) ≡ false
  pub billion_whole : rounded 1000 (double 0x41cd_cd65_0000_0000) ≡ 1000000000000
  pub past_billion : unusable (double 0x41cd_cd65_0000_0001) ≡ true
  pub infinity : unusable (double 0x7ff0_0000_0000_0000) ≡ true
  pub no_number : unusable (double 0x7ff8_0000_0000_0000) ≡ true
  -- the way back of 100 thousandths, and of 1 tenth: the double 0.1
  pub tenth_back : to_bits binary64 (nearest 1000 100) ≡ 0x3fb9_9999_9999_999a
  pub tenth_back_2 : to_bits binary64 (nearest 10 1) ≡ 0x3fb9_9999_9999_999a
  pub zero_back : to_bits binary64 (nearest 1000 0) ≡ 0

pub examples : Examples
unfolding unusable rounded of_bits to_bits lt of_int round
examples =
    record {
      quarter = refl;
      three_quarters_lem = refl;
      tenth = refl;
      below_half = refl;
      half = refl;
      minus_zero_lem = refl;
      minus_zero_whole = refl;
      least_below = refl;
      least_above = refl;
      billion = refl;
      billion_whole = refl;
      past_billion = refl;
      infinity = refl;
      no_number = refl;
      tenth_back = refl;
      tenth_back_2 = refl;
      zero_back = refl;
    }
