-- `lent_sheet::store` meets its contract. Assumes nothing.
use Rattle.std.proofs.Common.{rules, ◌≡◌, Err}
use mathlib.Core.Path.{sym, ap}
use Rattle.columns.specs.Refusals.{storing_code}
use Rattle.lent_sheet.specs.declared.Refusal.TheVariants.{Space}
use Rattle.lent_sheet.proofs.Archiving.{short_archive, unpacked_list, archive_stored}
use Rattle.lent_sheet.proofs.store.Goals as goal

pub returns-in_err-enough : goal.returns-in_err-enough
returns-in_err-enough c =
    let refused : c.from_residual.result ≡ Err Space = search rules in
    rw refused (short_archive _ _ c.in_err-enough.ensures.1)

pub returns-in_err-store : goal.returns-in_err-store
returns-in_err-store c =
    let refused : c.from_residual-in_err-store.result ≡ Err Space = search rules in
    let room = c.in_ok-enough.ensures in
    rw refused (archive_stored room (unpacked_list _ _ room c.unpack.ensures) c.store.ensures (sym (ap storing_code c.in_err-store.was)))

pub returns : goal.returns
returns c =
    let room = c.in_ok-enough.ensures in
    archive_stored room (unpacked_list _ _ room c.unpack.ensures) c.store.ensures (sym (ap storing_code c.in_ok-store.was))
