-- The words of all refusals by their numbers, for the law that one number has one word (proofs/laws/Words).
use Rattle.std.specs.Prelude.{ℕ, List, [], ◌∷◌}
use Rattle.refusals.specs.declared.Fault.TheVariants.{Length, Digit, Substance, State, Placement, Surroundings, Quantity, Heat}
use Rattle.refusals.specs.Faults as faults
use Rattle.frame.specs.declared.Refusal.TheVariants as answers
use Rattle.ring.specs.declared.Refusal.TheVariants as rings
use Rattle.from_old.specs.declared.Refusal.TheVariants as old_lines
use Rattle.to_old.specs.declared.Refusal.TheVariants as ways_back
use Rattle.sheet.specs.declared.Refusal.TheVariants as sheets
use Rattle.numbering.specs.Entries.{word}
use Rattle.numbering.specs.Entries.Refused.{answer, ring, old_line, way_back, adding, place}

-- the words by their numbers from 0 on; an accepted case has none, and 4 has none any more
abbrev pub words : List (List ℕ)
words =
    []
    ∷ faults.word Length
    ∷ faults.word Digit
    ∷ faults.word Substance
    ∷ []
    ∷ faults.word Quantity
    ∷ faults.word Heat
    ∷ word (answer answers.Beyond)
    ∷ word (answer answers.Space)
    ∷ word (ring rings.Threshold)
    ∷ word (ring rings.Weak)
    ∷ word (ring rings.Strong)
    ∷ faults.word State
    ∷ faults.word Placement
    ∷ faults.word Surroundings
    ∷ word (old_line old_lines.Tag)
    ∷ word (old_line old_lines.Double)
    ∷ word (adding sheets.Full)
    ∷ word (place (record {}))
    ∷ word (way_back ways_back.Air)
    ∷ []
