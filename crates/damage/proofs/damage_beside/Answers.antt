-- `damage::damage_beside` meets its contract: whole hundredths decide. Assumes nothing.
use Prim.Native.Nat.{ℕ, ◌/◌}
use mathlib.Core.Path.{◌≡◌, sym, ◌∙◌, ap}
use Rattle.signed.proofs.Back.{back}
use Rattle.damage.specs.laws.Readings.{from_zero, same_hundredths}
use Rattle.damage.proofs.damage_beside.Goals as goal

pub returns-then-from_zero : goal.returns-then-from_zero
returns-then-from_zero c =
    let known = c.args.known in
    let probit = c.args.probit in
    let first = c.from_zero.ensures ∙ ap from_zero (back known c.ranges.known.sfits) in
    let second = c.from_zero-2.ensures ∙ ap from_zero (back probit c.ranges.probit.sfits) in
    let same : from_zero known / 10 ≡ from_zero probit / 10 =
    sym (ap (λ (n : ℕ). n / 10) first) ∙ c.if-from_zero.true ∙ ap (λ (n : ℕ). n / 10) second
    in
    c.requires ∙ same_hundredths known probit same
