-- `damage::damage_at` meets its contract. Assumes nothing.
use Prim.Native.Nat.{ℕ}
use mathlib.Core.Path.{◌∙◌, ap}
use Rattle.damage.specs.Damage.{table, not_above, tenths_of_percent}
use Rattle.damage.specs.laws.Readings.{from_zero, damage_from_zero}
use Rattle.signed.proofs.Back.{back}
use Rattle.damage.proofs.damage_at.Goals as goal

pub returns : goal.returns
returns c =
    let p = c.args.probit in
    c.reading.ensures
    ∙ ap (λ (n : ℕ). tenths_of_percent (not_above table n)) (c.from_zero.ensures ∙ ap from_zero (back p c.ranges.probit.sfits))
    ∙ damage_from_zero p
