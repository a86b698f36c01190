-- What the entries promise: of fields, a frame; of a frame or a line, the case's spelling; or the first refusal, with 8 last (request 9).
use Rattle.std.specs.Prelude.{ℕ, List, length}
use Rattle.guidance.specs.declared.Case.{Case}
use Rattle.hexadecimals.specs.Digits.{bytes_of}
use Rattle.fields.specs.Bytes.{fields_of, frame_bytes}
use Rattle.limits.specs.Tests.{field_tests}
use Rattle.frame.specs.Tests.{frame_tests, line_tests}
use Rattle.writable.specs.Verdict.{Verdict}
use Rattle.writable.specs.Verdicts.{writable_verdict}
use Rattle.writable.specs.Writing.{Writes}
use Rattle.writing.specs.Spelling.{spelling}

-- the numbers as they are given, whatever their size: tests 3 to 6
abbrev pub fields_verdict : Case → (room : ℕ) → Verdict
fields_verdict c room = writable_verdict frame_bytes (field_tests c) c room

-- tests 1 and 3 to 6
abbrev pub frame_verdict : (frame : List ℕ) (room : ℕ) → Verdict
frame_verdict frame room = writable_verdict spelling (frame_tests frame) (fields_of frame) room

-- tests 1 to 6
abbrev pub line_verdict : (line : List ℕ) (room : ℕ) → Verdict
line_verdict line room = writable_verdict spelling (line_tests line) (fields_of (bytes_of line)) room

abbrev pub FromFields : (c : Case) (before : List ℕ) (v : Verdict) (after : List ℕ) → Type 0
FromFields c before = Writes frame_bytes (fields_verdict c (length before)) before

abbrev pub SpellsFrame : (frame before : List ℕ) (v : Verdict) (after : List ℕ) → Type 0
SpellsFrame frame before = Writes spelling (frame_verdict frame (length before)) before

abbrev pub SpellsLine : (line before : List ℕ) (v : Verdict) (after : List ℕ) → Type 0
SpellsLine line before = Writes spelling (line_verdict line (length before)) before
