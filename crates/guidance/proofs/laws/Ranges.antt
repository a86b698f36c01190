-- The sixteen printed places hold what document 01's formula gives: class + surroundings - 2, but at least 1 (request 4). Assumes nothing.
use Rattle.std.specs.Prelude.{ℕ, zero, suc, ◌+◌, ◌-◌, ◌≤◌, ◌≡◌, refl}
use Rattle.std.proofs.Common.{arith}
use Rattle.guidance.specs.Ranges.{ranges, range_at}

unfoldable pub at_least1 : ℕ → ℕ
at_least1 zero = 1
at_least1 (suc n) = suc n

-- what holds of 1, 2, 3 and 4
from_1_to_4 : (P : ℕ → Type 0) → P 1 → P 2 → P 3 → P 4 → (n : ℕ) → 1 ≤ n → n ≤ 4 → P n
from_1_to_4 P p q r s zero l m = absurd (omega arith)
from_1_to_4 P p q r s (suc zero) l m = p
from_1_to_4 P p q r s (suc (suc zero)) l m = q
from_1_to_4 P p q r s (suc (suc (suc zero))) l m = r
from_1_to_4 P p q r s (suc (suc (suc (suc zero)))) l m = s
from_1_to_4 P p q r s (suc (suc (suc (suc (suc n))))) l m = absurd (omega arith)

abbrev agree : (class surroundings : ℕ) → Type 0
agree class surroundings = range_at class surroundings ≡ at_least1 (class + surroundings - 2)

pub sixteen_places
    : (class surroundings : ℕ) → 1 ≤ class → class ≤ 4 → 1 ≤ surroundings → surroundings ≤ 4
    → range_at class surroundings ≡ at_least1 (class + surroundings - 2)
unfolding ranges range_at at_least1
sixteen_places class surroundings class_least class_most least most =
    from_1_to_4 (λ i. (j : ℕ) → 1 ≤ j → j ≤ 4 → agree i j)
    (from_1_to_4 (agree 1) refl refl refl refl)
    (from_1_to_4 (agree 2) refl refl refl refl)
    (from_1_to_4 (agree 3) refl refl refl refl)
    (from_1_to_4 (agree 4) refl refl refl refl)
    class class_least class_most surroundings least most
