-- Two characters for each byte of the frame; a fault needs none.
use Rattle.std.proofs.Common.{◌≡◌, ◌≤◌, ◌*◌, ℕ, refl, sym, ap, ◌∙◌, Ok, Err, arith, rules}
use Rattle.fields.specs.Bytes.{frame_bytes}
use Rattle.fields.specs.laws.Back.{frame_most}
use Rattle.limits.specs.Checked.{Checked}
use Rattle.writable.specs.Steps.{needed_for}
use Rattle.writing.specs.Spelling.{spelling}
use Rattle.writing.specs.laws.Spellings.{spelling_length}
use Rattle.writing.proofs.spelling_size.Goals as goal

doubled : (s : Checked) → 2 * needed_for frame_bytes s ≡ needed_for spelling s
doubled (Ok c) = sym (spelling_length c)
doubled (Err f) = refl

most : (s : Checked) → needed_for frame_bytes s ≤ 24
most (Ok c) = frame_most c
most (Err f) = omega arith

pub overflow_mul-result : goal.overflow_mul-result
overflow_mul-result c =
    let e : c.map_or.result ≡ needed_for frame_bytes c.args.found = search rules in
    omega (arith, e, most c.args.found)

pub returns : goal.returns
returns c =
    let e : c.map_or.result ≡ needed_for frame_bytes c.args.found = search rules in
    ap (λ (n : ℕ). 2 * n) e ∙ doubled c.args.found
