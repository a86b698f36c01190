-- `lent_sheet::close` meets its contract. Assumes nothing.
use Rattle.std.proofs.Common.{rules, ◌≡◌, Err}
use mathlib.Core.Path.{refl}
use Rattle.lent_sheet.specs.declared.Refusal.TheVariants.{Space}
use Rattle.lent_sheet.proofs.Settling.{short_close, accepted_call}
use Rattle.lent_sheet.proofs.close.Goals as goal

pub returns-in_err-enough : goal.returns-in_err-enough
returns-in_err-enough c =
    let refused : c.from_residual.result ≡ Err Space = search rules in
    rw refused (short_close _ c.in_err-enough.ensures.1)

pub returns : goal.returns
returns c =
    accepted_call _ _ _ _ _ c.in_ok-enough.ensures c.read-sheet.ensures c.close_up.ensures refl _ c.pack.ensures
