-- One number has one word, whichever entry gives it. Assumes nothing.
use Rattle.std.specs.Prelude.{ℕ, ◌≡◌, refl, [], get_or}
use Rattle.std.proofs.Common.{ap, sym, ◌∙◌}
use Rattle.refusals.specs.declared.Fault.{Fault}
use Rattle.refusals.specs.declared.Fault.TheVariants.{Length, Digit, Substance, State, Placement, Surroundings, Quantity, Heat}
use Rattle.refusals.specs.Faults as faults
use Rattle.frame.specs.declared.Refusal.TheVariants as answers
use Rattle.ring.specs.declared.Refusal.TheVariants as rings
use Rattle.writable.specs.declared.Refusal.TheVariants as writings
use Rattle.from_old.specs.declared.Refusal.TheVariants as old_lines
use Rattle.to_old.specs.declared.Refusal.TheVariants as ways_back
use Rattle.sheet.specs.declared.Refusal.TheVariants as sheets
use Rattle.lent_sheet.specs.declared.Refusal.TheVariants as calls
use Rattle.numbering.specs.Entries.{Refused, number, word}
use Rattle.numbering.specs.Entries.Refused.{answer, ring, writing, old_line, way_back, adding, place, call}
use Rattle.numbering.specs.laws.Words.{words}

fault_listed : (f : Fault) → faults.word f ≡ get_or words (faults.number f) []
fault_listed Length = refl
fault_listed Digit = refl
fault_listed Substance = refl
fault_listed State = refl
fault_listed Placement = refl
fault_listed Surroundings = refl
fault_listed Quantity = refl
fault_listed Heat = refl

pub listed : (r : Refused) → word r ≡ get_or words (number r) []
listed (answer (answers.Faulty f)) = fault_listed f
listed (answer answers.Beyond) = refl
listed (answer answers.Space) = refl
listed (ring (rings.Faulty f)) = fault_listed f
listed (ring rings.Threshold) = refl
listed (ring rings.Weak) = refl
listed (ring rings.Strong) = refl
listed (writing (writings.Faulty f)) = fault_listed f
listed (writing writings.Space) = refl
listed (old_line (old_lines.Unwritten (writings.Faulty f))) = fault_listed f
listed (old_line (old_lines.Unwritten writings.Space)) = refl
listed (old_line old_lines.Tag) = refl
listed (old_line old_lines.Double) = refl
listed (way_back (ways_back.Faulty f)) = fault_listed f
listed (way_back ways_back.Air) = refl
listed (way_back ways_back.Space) = refl
listed (adding (sheets.Faulty f)) = fault_listed f
listed (adding sheets.Beyond) = refl
listed (adding sheets.Full) = refl
listed (place v) = refl
listed (call (calls.Unadded (sheets.Faulty f))) = fault_listed f
listed (call (calls.Unadded sheets.Beyond)) = refl
listed (call (calls.Unadded sheets.Full)) = refl
listed (call calls.Vacant) = refl
listed (call calls.Space) = refl

pub one_word : (r q : Refused) → number r ≡ number q → word r ≡ word q
one_word r q e = listed r ∙ ap (λ (n : ℕ). get_or words n []) e ∙ sym (listed q)
