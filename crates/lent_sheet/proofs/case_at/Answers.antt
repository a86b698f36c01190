-- `lent_sheet::case_at` meets its contract. Assumes nothing.
use Rattle.std.proofs.Common.{rules, ◌≡◌, Err}
use native.Mathlib.Omega.{arith}
use Rattle.lent_sheet.specs.declared.Refusal.TheVariants.{Space, Vacant}
use Rattle.lent_sheet.proofs.Settling.{short_show, vacant_show, narrow_show, case_shown}
use Rattle.lent_sheet.proofs.case_at.Goals as goal

pub returns-in_err-enough : goal.returns-in_err-enough
returns-in_err-enough c =
    let refused : c.from_residual.result ≡ Err Space = search rules in
    rw refused (short_show _ _ _ c.in_err-enough.ensures.1)

pub returns-in_err-case : goal.returns-in_err-case
returns-in_err-case c =
    let refused : c.from_residual-in_err-case.result ≡ Err Vacant = search rules in
    rw refused (vacant_show _ _ _ _ _ c.in_ok-enough.ensures c.read.ensures c.case_at.ensures _ c.in_err-case.was)

pub returns-then-area-size_of : goal.returns-then-area-size_of
returns-then-area-size_of c =
    narrow_show _ _ _ _ _ c.in_ok-enough.ensures c.read.ensures c.case_at.ensures _ c.in_ok-case.was c.size_of.ensures c.if-area-size_of.true

pub returns : goal.returns
returns c =
    case_shown _ _ _ _ _ c.in_ok-enough.ensures c.read.ensures c.case_at.ensures _ c.in_ok-case.was
    (omega (arith, c.size_of.ensures, c.if-area-size_of.false)) _ c.write.ensures
