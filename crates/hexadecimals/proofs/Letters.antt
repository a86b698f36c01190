-- The bit that a small letter has and its capital has not. Assumes nothing.
use Rattle.std.proofs.Common.{◌≡◌, ℕ, ◌+◌, ◌*◌, ◌/◌, ◌%◌, ap, sym, ◌∙◌}
use Rattle.std.specs.Int.Bits.{bit_or, or_add_and}
use Rattle.std.proofs.lemmas.Nat.Bits.{and_pow}

pub small_letter : (b : ℕ) → bit_or b 32 + b / 32 % 2 * 32 ≡ b + 32
small_letter b = ap (λ (n : ℕ). bit_or b 32 + n) (sym (and_pow b 5)) ∙ or_add_and b 32
