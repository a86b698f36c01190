-- `answer::reading_of` meets its contract. Assumes nothing.
use mathlib.Core.Path.{ap, ap₂, ◌∙◌}
use Prim.Native.Nat.{ℕ}
use Rattle.std.proofs.Common.{rules}
use Rattle.damage.specs.Damage.{damage}
use Rattle.signed.proofs.Back.{back}
use Rattle.answer.specs.Answer.{reading}
use Rattle.answer.proofs.reading_of.Goals as goal

pub returns : goal.returns
unfolding reading
returns c =
    let p = c.args.p in
    ap₂ (λ (a b : ℕ). record { lower = a; upper = b })
    (c.damage_at-lower.ensures ∙ ap damage (back p.lower (search rules)))
    (c.damage_beside-upper.ensures ∙ ap damage (back p.upper (search rules)))
