-- A sheet of the propane example's receptors and its totals, worked on the definitions: docs/sheets.md goes through it. Assumes nothing.
use Rattle.std.specs.Prelude.{ℕ, ◌/◌, ◌%◌, ◌≡◌, refl, List, [], ◌∷◌, Option, Some, Ok, Err}
use Rattle.std.proofs.Math.Decide.{dec_le}
use Rattle.exact.specs.Fraction.{whole, ◌⊗◌, power}
use Rattle.guidance.specs.declared.Case.{Case}
use Rattle.guidance.specs.Substances.{betas, beta_of, class_of, heat_of}
use Rattle.guidance.specs.Ranges.{ranges, range_at}
use Rattle.guidance.specs.Clouds.{range_of, ground_factor, lean_by, lean_factor, aerosol_factor, energy}
use Rattle.guidance.specs.Distances.{less, metres, cubed, farther, cube24}
use Rattle.refusals.specs.Order.{first_of, held}
use Rattle.fields.specs.Bytes.{air_in, fields_of}
use Rattle.limits.specs.Tests.{quantity_outside, heat_missing, value_tests, field_tests}
use Rattle.frame.specs.Tests.{frame_tests}
use Rattle.places.specs.declared.Held.{Held}
use Rattle.places.specs.Holes.{ahead, trim, at, added, withdrawn, closed}
use Rattle.totals.specs.Totals.{count, greatest, first_with, totals_of}
use Rattle.sheet.specs.declared.Refusal.TheVariants.{Beyond}
use Rattle.sheet.specs.Tests.{own_tests, add_tests}
use Rattle.sheet.specs.Operations.{Operation, add_frame, withdraw, close, case_at, placing, finding, counting, adding, found, held_of, act}
use Rattle.sheet.specs.Runs.{after, answered}

-- the propane example of 004, at a distance in cm
abbrev frame : (distance : ℕ) → List ℕ
frame d =
    0x11 ∷ 0x00 ∷ 0x01 ∷ 0x04 ∷ 0x00 ∷ 0x7A ∷ 0x12 ∷ 0x00 ∷ 0x05 ∷ 0x78 ∷ 0x03 ∷ 0x02 ∷ 0x00 ∷ 0x00 ∷ 0xB5 ∷ 0x40
    ∷ 0x00 ∷ d / 65536 ∷ d / 256 % 256 ∷ d % 256 ∷ 0x00 ∷ 0x46 ∷ []

abbrev case : (distance : ℕ) → Case
case d = fields_of (frame d)

-- a gap is not filled, a place past the last is none, and a case beyond is not added; the ends are those that the library finds
abbrev pub yard : List Operation
yard =
    add_frame (frame 10000) 29033 ∷ add_frame (frame 15000) 21723 ∷ add_frame (frame 30000) 12046 ∷ withdraw 2 ∷ add_frame (frame 22000) 15839 ∷ case_at 2
    ∷ withdraw 4 ∷ add_frame (frame 25000) 14170 ∷ close ∷ case_at 2 ∷ add_frame (frame 1000000) 0 ∷ []

-- what is on it then
abbrev pub left : List (Option Held)
left = Some (held_of (case 10000) 29033) ∷ Some (held_of (case 30000) 12046) ∷ Some (held_of (case 25000) 14170) ∷ []

pub record Examples : Type 0 where
  pub answers
      : answered [] yard
      ≡ placing (Ok 1) ∷ placing (Ok 2) ∷ placing (Ok 3) ∷ finding (Ok (case 15000)) ∷ placing (Ok 4)
      ∷ finding (Err (record {})) ∷ finding (Ok (case 22000)) ∷ placing (Ok 4) ∷ counting 3 ∷ finding (Ok (case 30000))
      ∷ placing (Err Beyond) ∷ []
  pub places : after [] yard ≡ left

pub examples : Examples
unfolding answered after act adding found at trim ahead added withdrawn closed add_tests own_tests first_of held frame_tests field_tests value_tests quantity_outside heat_missing air_in fields_of farther less cubed metres cube24 power whole ◌⊗◌ energy ground_factor lean_factor lean_by dec_le aerosol_factor heat_of betas beta_of range_of range_at ranges class_of
examples = record { answers = refl; places = refl }

-- the totals, as the pump house is withdrawn, the gap closed, and the other two withdrawn
pub record Shown : Type 0 where
  pub three : totals_of left ≡ record { cases = 3; greatest = 29033; place = 1 }
  pub lowered : totals_of (after left (withdraw 1 ∷ [])) ≡ record { cases = 2; greatest = 14170; place = 3 }
  pub moved : totals_of (after left (withdraw 1 ∷ close ∷ [])) ≡ record { cases = 2; greatest = 14170; place = 2 }
  pub emptied : totals_of (after left (withdraw 1 ∷ close ∷ withdraw 2 ∷ withdraw 1 ∷ [])) ≡ record { cases = 0; greatest = 0; place = 0 }

pub shown : Shown
unfolding totals_of count greatest first_with after act at trim ahead withdrawn closed
shown = record { three = refl; lowered = refl; moved = refl; emptied = refl }
