-- Tests 1 to 6, which every entry has that takes a frame or a line, and test 7 (document 01, "Refused cases"; request 11).
use Rattle.std.specs.Prelude.{ℕ, Bool, not, ◌||◌, List, ◌∷◌, length, eqb}
use Rattle.guidance.specs.declared.Case.{Case}
use Rattle.guidance.specs.AirPressure.{air_of}
use Rattle.guidance.specs.Distances.{farther, cube24}
use Rattle.hexadecimals.specs.Digits.{all_digits, bytes_of}
use Rattle.refusals.specs.declared.Fault.{Fault}
use Rattle.refusals.specs.declared.Fault.TheVariants.{Length, Digit}
use Rattle.refusals.specs.Order.{Test, ◌when◌}
use Rattle.fields.specs.Bytes.{fields_of}
use Rattle.limits.specs.Tests.{field_tests}

-- of one length, or of the other
abbrev pub either : (a b : ℕ) → List ℕ → Bool
either a b s = eqb (length s) a || eqb (length s) b

-- 22 bytes, or 24 with the air pressure; a frame given as bytes has no test 2
unfoldable pub frame_tests : List ℕ → List (Test Fault)
frame_tests frame = (Length when not (either 22 24 frame)) ∷ field_tests (fields_of frame)

-- a line is judged as the frame that it spells, once it has 44 or 48 digits
unfoldable pub line_tests : List ℕ → List (Test Fault)
line_tests line = (Length when not (either 44 48 line)) ∷ (Digit when not (all_digits line)) ∷ field_tests (fields_of (bytes_of line))

-- test 7: the reduced distance is above 24, in the case's own air
abbrev pub beyond : Case → Bool
beyond c = farther cube24 (air_of c) c
