-- `hexadecimals::spelled` meets its contract: a line of another length or with another character spells nothing. Assumes nothing.
use Rattle.std.proofs.Common.{sym, ap, ◌∙◌, Some}
use Rattle.hexadecimals.specs.laws.Spelling.{of_length, other_length, is_spelled, not-spelled}
use Rattle.hexadecimals.proofs.spelled.Goals as goal
use Rattle.hexadecimals.proofs.spelled.Goals.{else-line-via-then-line+else-read, else-line-via-else-line}

pub returns-then-read : goal.returns-then-read
returns-then-read g c =
    ap Some (c.read.ensures.bytes c.if-read.true) ∙ is_spelled _ _ (sym (of_length g.row.N c.args.line.now c.if-line.true) ∙ sym c.read.ensures.told ∙ c.if-read.true)

pub returns-else-line : goal.returns-else-line
returns-else-line g c =
    elim c.else-line.branch [
      | else-line-via-then-line+else-read w ↦ not-spelled _ _ (sym (of_length g.row.N c.args.line.now w.if-line.true) ∙ sym w.read.ensures.told ∙ w.if-read.false)
      | else-line-via-else-line w ↦ not-spelled _ _ (sym (other_length g.row.N c.args.line.now w.if-line.false))
    ]
