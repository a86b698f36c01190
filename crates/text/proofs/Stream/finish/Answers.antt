-- `text::Stream::finish` meets its contract. Assumes nothing.
use native.Mathlib.Omega.{arith}
use Rattle.text.proofs.Finishing.{finished_none, finished_line}
use Rattle.text.proofs.Stream.finish.Goals as goal

pub returns-then-self-eq0 : goal.returns-then-self-eq0
returns-then-self-eq0 c =
    finished_none c.args.out.now c.if-self-eq0.true

pub returns : goal.returns
returns c =
    let put = c.put_held in
    finished_line c.requires (omega (arith, c.if-self-eq0.false)) put.auto.out put.ensures
