-- What a line of two characters for each byte spells.
use Rattle.std.proofs.Common.{◌≡◌, Some, None, rules}
use Rattle.hexadecimals.specs.Spelling.{spelled}
use Rattle.hexadecimals.specs.laws.Spelling.{some_bytes, some_digits, none_digits}
use Rattle.frame.proofs.spelled.Goals as goal

pub returns-in_err-frame : goal.returns-in_err-frame
returns-in_err-frame g c =
    let none : spelled g.row.N c.args.line.now ≡ None = search rules in
    rw (none_digits _ _ none (search rules)) (search rules)

pub returns : goal.returns
returns g c =
    let some : spelled g.row.N c.args.line.now ≡ Some c.in_ok-frame.frame = search rules in
    simp (some_digits _ _ some, c.read.ensures, some_bytes _ _ some)
