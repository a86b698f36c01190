-- `answer::write` meets its contract. Assumes nothing.
use Rattle.std.specs.Prelude.{ℕ}
use mathlib.Core.Path.{ap, ◌∙◌}
use lib.Seq.{sets}
use Rattle.layout.specs.declared.Five.{Five}
use Rattle.layout.specs.declared.Interval.{Interval}
use Rattle.layout.specs.Places.{answer_bytes}
use Rattle.answer.proofs.Writing.{wrote}
use Rattle.answer.proofs.write.Goals as goal

pub returns : goal.returns
returns c =
    let f = c.figures_of-f in
    let d = c.readings_of-d in
    wrote f.ensures c.args.area.now _ c.requires.room
    (c.put_answer.ensures ∙ ap (λ (x : Five (Interval ℕ)). sets c.args.area.now 0 (answer_bytes f.result.range f.result.pressure f.result.impulse f.result.probits x)) d.ensures)
