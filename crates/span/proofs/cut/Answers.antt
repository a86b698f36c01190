-- `span::cut` meets its contract. Assumes nothing.
use Rattle.std.proofs.Common.{◌≡◌, refl, ap, ℕ, suc, ◌+◌, ◌^◌, arith}
use Rattle.span.proofs.Rounding.{cut}
use Rattle.span.proofs.cut.Goals as goal

pub returns : goal.returns
returns c =
    let h = c.requires in
    let s = c.args.s in
    let same : 31 + s ≡ suc (30 + s) = omega arith in
    cut _ _ _ (30 + s) h.ordered h.least (omega (arith, ap (λ (i : ℕ). 2 ^ i) same, h.most)) s refl
