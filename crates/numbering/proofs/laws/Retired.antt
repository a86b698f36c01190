-- No refusal of any entry has the number 4 (request 2). Assumes nothing.
use Rattle.std.specs.Prelude.{◌≡◌, refl}
use Rattle.std.proofs.Common.{arith}
use Rattle.refusals.proofs.laws.Numbers.{no_fault}
use Rattle.frame.specs.declared.Refusal.TheVariants as answers
use Rattle.ring.specs.declared.Refusal.TheVariants as rings
use Rattle.writable.specs.declared.Refusal.TheVariants as writings
use Rattle.from_old.specs.declared.Refusal.TheVariants as old_lines
use Rattle.to_old.specs.declared.Refusal.TheVariants as ways_back
use Rattle.sheet.specs.declared.Refusal.TheVariants as sheets
use Rattle.lent_sheet.specs.declared.Refusal.TheVariants as calls
use Rattle.numbering.specs.Entries.{Refused, number}
use Rattle.numbering.specs.Entries.Refused.{answer, ring, writing, old_line, way_back, adding, place, call}

pub retired : (r : Refused) → number r ≡ 4 → ⊥
retired (answer (answers.Faulty f)) = no_fault 4 refl f
retired (answer answers.Beyond) = λ e. omega arith
retired (answer answers.Space) = λ e. omega arith
retired (ring (rings.Faulty f)) = no_fault 4 refl f
retired (ring rings.Threshold) = λ e. omega arith
retired (ring rings.Weak) = λ e. omega arith
retired (ring rings.Strong) = λ e. omega arith
retired (writing (writings.Faulty f)) = no_fault 4 refl f
retired (writing writings.Space) = λ e. omega arith
retired (old_line (old_lines.Unwritten (writings.Faulty f))) = no_fault 4 refl f
retired (old_line (old_lines.Unwritten writings.Space)) = λ e. omega arith
retired (old_line old_lines.Tag) = λ e. omega arith
retired (old_line old_lines.Double) = λ e. omega arith
retired (way_back (ways_back.Faulty f)) = no_fault 4 refl f
retired (way_back ways_back.Air) = λ e. omega arith
retired (way_back ways_back.Space) = λ e. omega arith
retired (adding (sheets.Faulty f)) = no_fault 4 refl f
retired (adding sheets.Beyond) = λ e. omega arith
retired (adding sheets.Full) = λ e. omega arith
retired (place v) = λ e. omega arith
retired (call (calls.Unadded (sheets.Faulty f))) = no_fault 4 refl f
retired (call (calls.Unadded sheets.Beyond)) = λ e. omega arith
retired (call (calls.Unadded sheets.Full)) = λ e. omega arith
retired (call calls.Vacant) = λ e. omega arith
retired (call calls.Space) = λ e. omega arith
