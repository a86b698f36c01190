-- `hexadecimals::spell` meets its contract: what is read is copied where all are digits. Assumes nothing.
use Rattle.std.proofs.Common.{sym, ◌∙◌, true≢false}
use Rattle.hexadecimals.specs.laws.Spelling.{of_length, other_length, by_answer}
use Rattle.hexadecimals.proofs.spell.Goals as goal

pub returns-then-line-s : goal.returns-then-line-s
returns-then-line-s c =
    by_answer _ (other_length _ _ c.if-line-s.true) (λ h. absurd (true≢false (sym h))) (λ h i. c.args.s.now)

pub returns-then-told : goal.returns-then-told
returns-then-told c =
    by_answer _ (c.read-told.ensures.told ∙ of_length _ _ c.if-line-s.false) (λ h. c.copy_from_slice.ensures.after ∙ c.read-told.ensures.bytes h) (λ h. absurd (true≢false (sym c.if-told.true ∙ h)))

pub returns-else-told : goal.returns-else-told
returns-else-told c =
    by_answer _ (c.read-told.ensures.told ∙ of_length _ _ c.if-line-s.false) (λ h. absurd (true≢false (sym h ∙ c.if-told.false))) (λ h i. c.args.s.now)
