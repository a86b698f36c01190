-- Tests 1, 2, 15 and 16, one by one. Assumes nothing.
use Rattle.std.specs.Prelude.{ℕ, ◌≡◌, refl, Bool, true, false, cond, List, length, Err, Ok}
use Rattle.std.proofs.Math.Option.{Option, none, some}
use Rattle.std.proofs.Common.{arith, eq-eqb, ne_eqb, eqb-true}
use Rattle.std.proofs.lemmas.Bool.{not-false}
use Rattle.refusals.specs.declared.Fault.TheVariants.{Length, Digit}
use Rattle.refusals.specs.Order.{first_of}
use Rattle.refusals.proofs.laws.Order.{passed}
use Rattle.hexadecimals.specs.Digits.{all_digits, bytes_of}
use Rattle.writable.specs.declared.Refusal.TheVariants.{Faulty}
use Rattle.old_case.specs.declared.OldCase.{OldCase}
use Rattle.old_case.specs.Cases.{unusable_in}
use Rattle.old_bytes.specs.Bytes.{old_of, misplaced}
use Rattle.from_old.specs.declared.Refusal.{Refusal}
use Rattle.from_old.specs.declared.Refusal.TheVariants.{Unwritten, Tag, Double}
use Rattle.from_old.specs.Tests.{reading_tests}
use Rattle.from_old.specs.Steps.{bytes_reading, reading_by, line_reading, UsableIfOld}

pub other_length : (line : List ℕ) → (length line ≡ 116 → ⊥) → line_reading line ≡ Err (Unwritten (Faulty Length))
unfolding line_reading reading_tests first_of
other_length line h = simp (ne_eqb (length line) 116 h)

pub other_character : (line : List ℕ) → length line ≡ 116 → all_digits line ≡ false → line_reading line ≡ Err (Unwritten (Faulty Digit))
unfolding line_reading reading_tests first_of
other_character line h d = simp (eq-eqb (length line) 116 h, d)

pub by_bytes : (line : List ℕ) → length line ≡ 116 → all_digits line ≡ true → line_reading line ≡ bytes_reading (bytes_of line)
unfolding line_reading reading_tests first_of
by_bytes line h d = simp (eq-eqb (length line) 116 h, d) (go (misplaced (bytes_of line)) (unusable_in (old_of (bytes_of line))))
  where
    go : (a b : Bool) → reading_by (cond a (some Tag) (cond b (some Double) none)) (old_of (bytes_of line)) ≡ cond a (Err Tag) (cond b (Err Double) (Ok (old_of (bytes_of line))))
    go true b = refl
    go false true = refl
    go false false = refl

-- what passed them has its length, its digits, its tags in place, and usable doubles
pub record Read (line : List ℕ) : Type 0 where
  pub size : length line ≡ 116
  pub digits : all_digits line ≡ true
  pub tags : misplaced (bytes_of line) ≡ false
  pub usable : unusable_in (old_of (bytes_of line)) ≡ false

pub line_read_lem : (line : List ℕ) → first_of (reading_tests line) ≡ none → Read line
unfolding reading_tests
line_read_lem line h =
    let p = passed (reading_tests line) h in
    record { size = eqb-true (length line) 116 (not-false _ p.0); digits = not-false _ p.1.0; tags = p.1.1.0; usable = p.1.1.1.0 }

pub read_passes : (line : List ℕ) → Read line → first_of (reading_tests line) ≡ none
unfolding reading_tests first_of
read_passes line r = simp (eq-eqb (length line) 116 r.size, r.digits, r.tags, r.usable)

pub old_by : (r : Option Refusal) (o p : OldCase) → reading_by r o ≡ Ok p → (r ≡ none) × (p ≡ o)
old_by none o p h = (refl, cc)
old_by (some r) o p h = let z : ◌≡◌ {A = ℕ} 0 1 = cc in absurd (omega arith)

pub usable_if_old : (line : List ℕ) → UsableIfOld (line_reading line)
unfolding line_reading
usable_if_old line o h = let p = old_by _ _ o h in rw p.1 (line_read_lem line p.0).usable
