-- `lent_sheet::add` meets its contract. Assumes nothing.
use Rattle.std.proofs.Common.{rules, ◌≡◌, Err}
use mathlib.Core.Path.{sym, ap, ◌∙◌}
use Rattle.sheet_bytes.specs.laws.Lent.{short_lent}
use Rattle.lent_sheet.specs.declared.Refusal.TheVariants.{Unadded}
use Rattle.lent_sheet.proofs.Settling.{short_refusal, add_short, add_refused, add_accepted}
use Rattle.lent_sheet.proofs.add.Goals as goal

pub returns-in_err-enter_frame : goal.returns-in_err-enter_frame
returns-in_err-enter_frame c place =
    let refused : c.from_residual.result ≡ Err (Unadded c.in_err-enter_frame.field-0.0) = search rules in
    let few = c.if-s-lt-SIZE.true in
    rw refused (add_short _ _ place _ _ _ (c.empty.ensures.0 ∙ sym (short_lent _ few)) c.enter_frame.ensures _ (ap short_refusal c.in_err-enter_frame.was) few)

pub returns-then-s-lt-SIZE : goal.returns-then-s-lt-SIZE
returns-then-s-lt-SIZE c place =
    let few = c.if-s-lt-SIZE.true in
    add_short _ _ place _ _ _ (c.empty.ensures.0 ∙ sym (short_lent _ few)) c.enter_frame.ensures _ (ap short_refusal c.in_ok-enter_frame.was) few

pub returns-in_err-place : goal.returns-in_err-place
returns-in_err-place c place =
    let refused : c.from_residual-in_err-place.result ≡ Err (Unadded c.in_err-place.field-0.0) = search rules in
    rw refused (add_refused _ _ place _ _ _ c.read-sheet.ensures c.enter_frame-2.ensures _ c.in_err-place.was c.if-s-lt-SIZE.false)

pub returns : goal.returns
returns c place =
    add_accepted _ _ place _ _ _ c.read-sheet.ensures c.enter_frame-2.ensures _ c.in_ok-place.was c.if-s-lt-SIZE.false _ c.pack.ensures
