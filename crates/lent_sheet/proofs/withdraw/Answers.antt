-- `lent_sheet::withdraw` meets its contract. Assumes nothing.
use Rattle.std.proofs.Common.{rules, ◌≡◌, Result, Err}
use mathlib.Core.Path.{ap}
use Rattle.guidance.specs.declared.Case.{Case}
use Rattle.sheet.specs.declared.Vacancy.{Vacancy}
use Rattle.sheet.specs.Operations.{finding, refusal}
use Rattle.lent_sheet.specs.declared.Refusal.TheVariants.{Space, Vacant}
use Rattle.lent_sheet.proofs.Settling.{short_withdraw, refused_call, accepted_call}
use Rattle.lent_sheet.proofs.withdraw.Goals as goal

pub returns-in_err-enough : goal.returns-in_err-enough
returns-in_err-enough c =
    let refused : c.from_residual.result ≡ Err Space = search rules in
    rw refused (short_withdraw _ _ c.in_err-enough.ensures.1)

pub returns-in_err-leave : goal.returns-in_err-leave
returns-in_err-leave c =
    let refused : c.from_residual-in_err-leave.result ≡ Err Vacant = search rules in
    rw refused
    (refused_call _ _ _ _ _ c.in_ok-enough.ensures c.read-sheet.ensures c.leave.ensures _ (ap (λ (q : Result Case Vacancy). refusal (finding q)) c.in_err-leave.was))

pub returns : goal.returns
returns c =
    accepted_call _ _ _ _ _ c.in_ok-enough.ensures c.read-sheet.ensures c.leave.ensures (ap (λ (q : Result Case Vacancy). refusal (finding q)) c.in_ok-leave.was) _
    c.pack.ensures
