-- The frame fills an array of its length.
use Rattle.std.proofs.Common.{sym, ap, ◌∙◌, List, ℕ}
use Rattle.std.proofs.lemmas.List.{length-replicate}
use Rattle.std.proofs.lemmas.List.Edits.{sets}
use Rattle.byte_numbers.specs.laws.Storing.{sets_all}
use Rattle.hexadecimals.specs.Written.{digits_of}
use Rattle.writing.proofs.put_digits.Goals as goal

pub returns : goal.returns
returns g c =
    let filled = c.write.ensures ∙ sets_all _ _ (c.requires.0 ∙ sym (length-replicate g.row.N 0)) in
    c.write-2.ensures ∙ ap (λ (f : List ℕ). sets c.args.area.now 0 (digits_of f)) filled
