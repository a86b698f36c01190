-- `text::digits::put_decimal` meets its contract: the library's digits stand at the area's start. Assumes nothing.
use mathlib.Core.Path.{◌≡◌, sym, ap, ◌∙◌}
use native.Mathlib.Omega.{arith}
use lib.ListN.{length}
use Rattle.text.specs.Digits.{decimal}
use Rattle.text.specs.laws.Digits.{decimal_std}
use Rattle.text.proofs.digits.put_decimal.Goals as goal

pub returns : goal.returns
returns c =
    let digits : c.as_bytes-digits.result.now ≡ decimal c.args.n
    = c.as_bytes-digits.ensures.value ∙ c.format.ensures.text ∙ sym (decimal_std c.args.n c.ranges.n.fits) in
    record { size = ap length digits; short = omega arith; bytes = rw (c.copy_from_slice.ensures.after, digits) }
