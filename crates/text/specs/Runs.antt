-- A whole run: an input fed in parts, wherever they were split, and the output.
use Rattle.std.specs.Prelude.{ℕ, List, [], ◌++◌}
use Rattle.text.specs.declared.Stream.{Stream}
use Rattle.text.specs.Streams.{Reached, Tells, TellsLast}

-- a stream is fed bytes until the input ends; the output is the text of the lines that end in them, each time
pub data Run : (s : Stream) (input output : List ℕ) → Type 0 where
  ends : {s : Stream} {text : List ℕ} → TellsLast s text → Run s [] text
  goes
      : {s t : Stream} {bytes text input output : List ℕ} →
      Tells s bytes text →
      Reached s bytes t →
      Run t input output →
      Run s (bytes ++ input) (text ++ output)
