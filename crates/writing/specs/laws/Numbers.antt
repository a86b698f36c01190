-- Which refusals do not come: fields have no tests 1 and 2, a frame has no test 2. Assumes nothing.
use Rattle.std.specs.Prelude.{ℕ, ◌≡◌, refl, List, Err}
use Rattle.guidance.specs.declared.Case.{Case}
use Rattle.refusals.specs.declared.Fault.TheVariants.{Length, Digit}
use Rattle.refusals.specs.Order.{held}
use Rattle.fields.specs.Bytes.{fields_of}
use Rattle.limits.specs.Tests.{value_tests, field_tests}
use Rattle.frame.specs.Tests.{frame_tests}
use Rattle.writable.specs.declared.Refusal.TheVariants.{Faulty}
use Rattle.writable.specs.Verdicts.{writable_tests, writable_verdict}
use Rattle.writable.specs.laws.Verdicts.{not_refused}
use Rattle.writing.specs.Entries.{fields_verdict, frame_verdict}

pub fields_no_length : (c : Case) (room : ℕ) → fields_verdict c room ≡ Err (Faulty Length) → ⊥
unfolding writable_verdict writable_tests held field_tests value_tests
fields_no_length c room h = not_refused (Faulty Length) _ c refl h

pub fields_no_digit : (c : Case) (room : ℕ) → fields_verdict c room ≡ Err (Faulty Digit) → ⊥
unfolding writable_verdict writable_tests held field_tests value_tests
fields_no_digit c room h = not_refused (Faulty Digit) _ c refl h

pub frame_no_digit : (frame : List ℕ) (room : ℕ) → frame_verdict frame room ≡ Err (Faulty Digit) → ⊥
unfolding writable_verdict writable_tests held frame_tests field_tests value_tests
frame_no_digit frame room h = not_refused (Faulty Digit) _ (fields_of frame) refl h
