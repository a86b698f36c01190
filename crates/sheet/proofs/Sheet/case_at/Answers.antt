-- `sheet::Sheet::case_at` meets its contract. Assumes nothing.
use Rattle.std.proofs.Common.{rules, ◌≡◌, Err}
use mathlib.Core.Path.{sym, ap, ◌∙◌}
use Rattle.sheet.specs.Operations.{list_of, found_in, found}
use Rattle.sheet.proofs.Contents.{taken, hole}
use Rattle.sheet.proofs.Sheet.case_at.Goals as goal

pub returns-in_err-held : goal.returns-in_err-held
unfolding found list_of
returns-in_err-held c =
    let refused : c.from_residual.result ≡ Err (record {}) = search rules in
    let nothing = hole _ _ _ (sym c.ok_or.ensures.value ∙ c.in_err-held.was) in
    refused ∙ ap found_in (sym nothing ∙ c.content_at.ensures)

pub returns : goal.returns
unfolding found list_of
returns c =
    let there = taken _ _ _ (sym c.ok_or.ensures.value ∙ c.in_ok-held.was) in
    ap found_in (sym there ∙ c.content_at.ensures)
