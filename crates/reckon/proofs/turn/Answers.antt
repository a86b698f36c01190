-- `reckon::turn` meets its contract: no byte is used where the input has ended. Assumes nothing.
use Rattle.std.proofs.lemmas.Result.{err_from_is_err_and}
use Rattle.reckon.proofs.Passing.{past_none}
use Rattle.reckon.proofs.turn.Goals as goal

pub returns-in_err-last : goal.returns-in_err-last
returns-in_err-last c =
    let p = err_from_is_err_and c.from_residual.result c.from_residual.ensures.1 in
    rw (p.1, p.2, c.in_err-last.ensures) (past_none c.args.stream.now c.read_some-n.new.input)

pub returns-in_ok-last : goal.returns-in_ok-last
returns-in_ok-last c =
    rw c.if-n-eq0.true (past_none c.args.stream.now c.read_some-n.new.input)
