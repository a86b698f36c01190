-- Every refusal of every entry, with its number and its word (request 2).
use Rattle.std.specs.Prelude.{ℕ, List}
use Rattle.frame.specs.declared.Refusal as of_answer
use Rattle.frame.specs.Refusals as answers
use Rattle.ring.specs.declared.Refusal as of_ring
use Rattle.ring.specs.Refusals as rings
use Rattle.writable.specs.declared.Refusal as of_writing
use Rattle.writable.specs.Refusals as writings
use Rattle.from_old.specs.declared.Refusal as of_old_line
use Rattle.from_old.specs.Refusals as old_lines
use Rattle.to_old.specs.declared.Refusal as of_way_back
use Rattle.to_old.specs.Refusals as ways_back
use Rattle.sheet.specs.declared.Refusal as of_adding
use Rattle.sheet.specs.declared.Vacancy as of_place
use Rattle.sheet.specs.Refusals as sheets
use Rattle.lent_sheet.specs.declared.Refusal as of_call
use Rattle.lent_sheet.specs.Refusals as calls

-- of an answer, of a figure alone or of a record; of a ring; of a case that is to be written; of an old line; of a frame
-- that goes to the old form; of a case that is added to a sheet; of a sheet's place; of a call on a lent sheet
pub data Refused : Type 0 where
  answer : of_answer.Refusal → Refused
  ring : of_ring.Refusal → Refused
  writing : of_writing.Refusal → Refused
  old_line : of_old_line.Refusal → Refused
  way_back : of_way_back.Refusal → Refused
  adding : of_adding.Refusal → Refused
  place : of_place.Vacancy → Refused
  call : of_call.Refusal → Refused

abbrev pub number : Refused → ℕ
number (answer r) = answers.number r
number (ring r) = rings.number r
number (writing r) = writings.number r
number (old_line r) = old_lines.number r
number (way_back r) = ways_back.number r
number (adding r) = sheets.number r
number (place v) = sheets.vacancy_number v
number (call r) = calls.number r

abbrev pub word : Refused → List ℕ
word (answer r) = answers.word r
word (ring r) = rings.word r
word (writing r) = writings.word r
word (old_line r) = old_lines.word r
word (way_back r) = ways_back.word r
word (adding r) = sheets.word r
word (place v) = sheets.vacancy_word v
word (call r) = calls.word r
