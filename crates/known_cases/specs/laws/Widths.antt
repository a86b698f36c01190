-- A pressure or an impulse is judged by the width that is promised of it, no coarser and no finer; and that width at its borders. Assumes nothing.
use Rattle.std.specs.Prelude.{ℕ, ◌+◌, ◌*◌, ◌≡◌, true}
use Rattle.std.proofs.Common.{arith, leb-true, le-leb}
use Rattle.vectors.specs.Figures.{closed}
use Rattle.blast.specs.WaveEnds.{Closed}

pub judged_promised : (lower upper : ℕ) → closed lower upper ≡ true → Closed lower upper
judged_promised lower upper h = omega (arith, leb-true (100000 * upper) (200000 + lower + 100000 * lower) h)

pub promised_judged : (lower upper : ℕ) → Closed lower upper → closed lower upper ≡ true
promised_judged lower upper h = le-leb (100000 * upper) (200000 + lower + 100000 * lower) (omega (arith, h))

-- at most 2 apart below 100,000, 3 at 100,000, 20 at 18 × 101,300 Pa, 21 at 18 × 110,000 Pa
pub record Borders : Type 0 where
  pub least : Closed 0 2
  pub least_over : Closed 0 3 → ⊥
  pub below : Closed 99999 100001
  pub below_over : Closed 99999 100002 → ⊥
  pub from : Closed 100000 100003
  pub from_over : Closed 100000 100004 → ⊥
  pub near_field_lem : Closed 1823400 1823420
  pub near_field_over : Closed 1823400 1823421 → ⊥
  pub densest : Closed 1980000 1980021
  pub densest_over : Closed 1980000 1980022 → ⊥

pub borders : Borders
borders =
    record {
      least = omega arith;
      least_over = λ h. absurd (omega (arith, h));
      below = omega arith;
      below_over = λ h. absurd (omega (arith, h));
      from = omega arith;
      from_over = λ h. absurd (omega (arith, h));
      near_field_lem = omega arith;
      near_field_over = λ h. absurd (omega (arith, h));
      densest = omega arith;
      densest_over = λ h. absurd (omega (arith, h));
    }
