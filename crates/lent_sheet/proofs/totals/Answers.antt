-- `lent_sheet::totals` meets its contract. Assumes nothing.
use Rattle.std.proofs.Common.{rules, ◌≡◌, Err}
use Rattle.lent_sheet.specs.declared.Refusal.TheVariants.{Space}
use Rattle.lent_sheet.proofs.Archiving.{unpacked_list}
use Rattle.lent_sheet.proofs.Settling.{short_totals, totals_shown}
use Rattle.lent_sheet.proofs.totals.Goals as goal

pub returns-in_err-enough : goal.returns-in_err-enough
returns-in_err-enough c count greatest place =
    let refused : c.from_residual.result ≡ Err Space = search rules in
    rw refused (short_totals _ count greatest place c.in_err-enough.ensures.1)

pub returns : goal.returns
returns c count greatest place =
    let room = c.in_ok-enough.ensures in
    totals_shown _ count greatest place _ _ room (unpacked_list _ _ room c.unpack.ensures) c.afresh.ensures
