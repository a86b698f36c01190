-- After any number of reads the stream stands for all that they brought. Assumes nothing.
use Rattle.std.specs.Prelude.{ℕ, List, [], length}
use Rattle.std.proofs.Common.{length-append}
use Rattle.text.specs.declared.Stream.{Stream}
use Rattle.text.specs.Lines.{ended, left}
use Rattle.text.specs.laws.Lines.{ended_append, left_append}
use Rattle.text.specs.Streams.{Stands}
use Rattle.reckon.specs.Reading.{After}
use Rattle.reckon.specs.Reading.After.{none, more}

pub after_stands : {reads : ℕ} {input : List ℕ} {s : Stream} → After reads input s → Stands s (length (ended [] input)) (left [] input)
unfolding ended left
after_stands (none st) = st
after_stands (more {input = input} {part = part} so_far some most reached) =
    rw (ended_append [] input part, left_append [] input part, length-append (ended [] input) (ended (left [] input) part))
    (reached.stands (length (ended [] input)) (left [] input) (after_stands so_far))
