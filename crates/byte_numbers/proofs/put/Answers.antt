-- `byte_numbers::put` meets its contract: the last of eight bytes are stored in a part. Assumes nothing.
use Rattle.std.proofs.Common.{ℕ, ◌+◌, ◌-◌, List, take, drop, ap, ◌∙◌, arith}
use Rattle.byte_numbers.specs.laws.Storing.{whole_part}
use Rattle.byte_numbers.proofs.Sizes.{last_of, last_length}
use Rattle.byte_numbers.proofs.put.Goals as goal

pub returns : goal.returns
returns g c =
    let n : ℕ = g.row.N in
    let at : ℕ = c.args.at in
    let last : List ℕ → List ℕ = λ l. take (8 - (8 - n)) (drop (8 - n) l) in
    whole_part at (at + n - at) (c.copy_from_slice.ensures.after ∙ ap last c.bytes_of.ensures ∙ last_of c.args.v n c.requires.size)
    (last_length c.args.v n c.requires.size ∙ omega arith)
    (omega (arith, c.requires.in_bounds))
