-- `places::Places::content_at` meets its contract: what the list has at a place is what stands there. Assumes nothing.
use mathlib.Core.Path.{sym, ap, ◌∙◌}
use native.Mathlib.Omega.{arith}
use Rattle.std.specs.Option.{option_flatten}
use Rattle.std.specs.Prelude.{None, slice_index_or}
use Rattle.places.specs.Places.{stands_for}
use Rattle.places.specs.laws.Contents.{at_none, at_inside}
use Rattle.places.proofs.Lookups.{read_through}
use Rattle.places.proofs.Places.content_at.Goals as goal

pub returns-in_err-checked_sub : goal.returns-in_err-checked_sub
returns-in_err-checked_sub c =
    c.from_residual.ensures ∙ sym (at_none (stands_for c.args.self.now) c.args.k (omega (arith, c.in_err-checked_sub.ensures)))

pub returns : goal.returns
returns c =
    let inside = c.in_ok-checked_sub.ensures in
    c.flatten.ensures ∙ ap option_flatten c.copied.ensures ∙ read_through c.get.result ∙ c.get.ensures.lookup.4 (omega arith) None
    ∙ ap (λ (i : _). slice_index_or c.args.self.now.all i None) inside.1 ∙ sym (at_inside c.args.self.now _ inside.0)
