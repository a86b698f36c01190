-- The text of a whole run, and that feeding a part comes to an end. Assumes nothing.
use Rattle.std.specs.Prelude.{ℕ, suc, ◌+◌, ◌<◌, ◌≡◌, List, [], ◌++◌, length}
use Rattle.std.proofs.Common.{⊎_elim, append_assoc, suc-add, eq-zero-or-pos, arith}
use Rattle.text.specs.declared.Stream.{Stream}
use Rattle.text.specs.declared.Fed.{Fed}
use Rattle.text.specs.Lines.{ended, left, last_line, lines_of}
use Rattle.text.specs.laws.Lines.{ended_append, left_append}
use Rattle.text.specs.Records.{Text}
use Rattle.text.specs.laws.Texts.{text_append}
use Rattle.text.specs.Streams.{Stands}
use Rattle.text.specs.Promises.{Ready, Feeds}
use Rattle.text.specs.Runs.{Run}
use Rattle.text.specs.Runs.Run.{ends, goes}

pub run_text
    : {s : Stream} {input output : List ℕ} →
    Run s input output →
    (lines : ℕ) (p : List ℕ) →
    Stands s lines p →
    Text (suc lines) (ended p input ++ last_line (left p input)) output
unfolding ended left
run_text (ends last) lines p st = last lines p st
run_text (goes {bytes = a} {input = input} told reached run) lines p st =
    rw (
      ended_append p a input,
      left_append p a input,
      append_assoc (ended p a) (ended (left p a) input) (last_line (left (left p a) input)),
    )
    (text_append
    (told lines p st)
    (rw (suc-add lines (length (ended p a))) (run_text run (lines + length (ended p a)) (left p a) (reached.stands lines p st))))

-- from the start, the text is that of the lines of the input
pub whole_text : {s : Stream} {input output : List ℕ} → Stands s 0 [] → Run s input output → Text 1 (lines_of input) output
unfolding lines_of
whole_text st run = run_text run 0 [] st

-- a part that has bytes is used at least in part, so that feeding it comes to an end
pub feeds_progress
    : {s t : Stream} {part before : List ℕ} {r : Fed} {after : List ℕ} →
    Ready s (length part) before →
    Feeds s part before t r after →
    0 < length part →
    0 < r.used
feeds_progress {r = r} ready f some =
    ⊎_elim
    (λ (e : r.used ≡ 0). omega (arith, e, f.full (omega (arith, e, some)), f.taken.begun, ready.room))
    (λ more. more)
    (eq-zero-or-pos r.used)
