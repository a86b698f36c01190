-- Signed words of 64 bits in a proof: each comes as `to_z w64 (of_z w64 z)`, read back from its bits, which is z itself wherever z fits
-- (proofs/Back); and what a word is after a test of its sign.
use Rattle.std.specs.Prelude.{◌≡◌, ℕ, ℤ}
use Rattle.std.proofs.Common.{of_z, to_z}
use Rattle.std.specs.Int.{w64}

-- the number that the code reads
abbrev pub R : ℤ → ℤ
R z = to_z w64 (of_z w64 z)

-- x is pos a, or negsuc a, after the test 0 <= x: as the contract has it and as the code reads it
pub record Read (s : ℕ → ℤ) (x : ℤ) : Type 0 where
  pub a : ℕ
  pub same : x ≡ s a
  pub read : R x ≡ s a
