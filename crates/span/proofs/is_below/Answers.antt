-- `span::is_below` meets its contract. Assumes nothing.
use Rattle.std.proofs.Common.{◌∙◌, arith}
use Rattle.std.proofs.lemmas.Bool.{lt-leb}
use Rattle.span.proofs.Below.{greater_exponent, by_mantissas}
use Rattle.span.proofs.is_below.Goals as goal

pub returns-then-a-b : goal.returns-then-a-b
returns-then-a-b c =
    let p = c.requires in by_mantissas p.0 p.1 (omega arith) c.shr_down.ensures

pub returns-else-a-b : goal.returns-else-a-b
returns-else-a-b c =
    let p = c.requires in lt-leb c.args.a.e c.args.b.e c.if-a-b.false ∙ greater_exponent p.0 p.1 c.if-a-b.false
