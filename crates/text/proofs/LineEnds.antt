-- What a search for LF tells of the first line. Assumes nothing.
use Prim.Native.Nat.{ℕ, ◌≤◌, ◌<◌}
use mathlib.Core.Path.{◌≡◌, refl, sym, ap, ◌∙◌}
use mathlib.Core.Bool.{cond}
use mathlib.Core.List.{List}
use native.Mathlib.Omega.{arith}
use lib.ListN.{length}
use Rattle.std.specs.Prelude.{Some, None, ◌==◌, nat_lt, position}
use Rattle.std.specs.List.{position_or_len}
use Rattle.std.proofs.lemmas.Bool.Decides.{nat_tests}
use Rattle.std.proofs.lemmas.List.Recursion.{is_position_or_len}
use Rattle.text.specs.Lines.{lf}
use Rattle.text.specs.Feeding.{end_of}
use Rattle.text.specs.laws.Lines.{end_of_within}

end_position : (s : List ℕ) → end_of s ≡ position_or_len (λ b. b == lf) s
unfolding end_of
end_position = is_position_or_len end_of (λ b. b == lf) refl (λ b s. ap (cond (b == lf) 0) (omega arith))

found : {p n end : ℕ} → Some end ≡ cond (nat_lt p n) (Some p) None → (end ≡ p) × (end < n)
found {p} {n} {end} e = grind (arith, nat_tests)

missed : {p n : ℕ} → None ≡ cond (nat_lt p n) (Some p) None → n ≤ p
missed {p} {n} e = grind (arith, nat_tests)

pub end_found : (s : List ℕ) {end : ℕ} → Some end ≡ position (λ b. b == lf) s → (end ≡ end_of s) × (end < length s)
end_found s e = let here = found e in (here.0 ∙ sym (end_position s), here.1)

pub end_missed : (s : List ℕ) → None ≡ position (λ b. b == lf) s → end_of s ≡ length s
end_missed s e = omega (arith, missed e, end_position s, end_of_within s)
