-- `sheet::Sheet::leave` meets its contract: a case that is there leaves a gap. Assumes nothing.
use Rattle.std.proofs.Common.{rules, ◌≡◌, Err}
use mathlib.Core.Path.{sym, ◌∙◌}
use Rattle.places.specs.laws.Contents.{taken_inside}
use Rattle.sheet.specs.laws.Places.{withdraw_none, withdraw_case}
use Rattle.sheet.proofs.Contents.{taken, hole}
use Rattle.sheet.proofs.Sheet.leave.Goals as goal

pub returns-in_err-held : goal.returns-in_err-held
returns-in_err-held c =
    let refused : c.from_residual.result ≡ Err (record {}) = search rules in
    let nothing = hole _ _ _ (sym c.ok_or.ensures.value ∙ c.in_err-held.was) in
    rw refused (withdraw_none _ _ (sym nothing ∙ c.content_at.ensures))

pub take-requires : goal.take-requires
take-requires c =
    taken_inside c.args.self.now.places _ _ (sym c.content_at.ensures ∙ taken _ _ _ (sym c.ok_or.ensures.value ∙ c.in_ok-held.was))

pub returns : goal.returns
returns c =
    let there = taken _ _ _ (sym c.ok_or.ensures.value ∙ c.in_ok-held.was) in
    withdraw_case _ _ _ _ (sym there ∙ c.content_at.ensures) c.take.ensures
