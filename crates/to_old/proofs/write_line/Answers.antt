-- `to_old::write_line` meets its contract: the digits of the old case's bytes. Assumes nothing.
use mathlib.Core.Path.{◌≡◌, refl, sym, ap, ◌∙◌, subst}
use mathlib.Core.Bool.{false}
use mathlib.Core.List.{List}
use Prim.Native.Nat.{ℕ}
use lib.Seq.{sets}
use borrow.Author.Rules.{rules}
use Rattle.hexadecimals.specs.Written.{digits_of}
use Rattle.old_case.specs.declared.OldCase.{OldCase}
use Rattle.old_case.specs.Cases.{unusable_in}
use Rattle.old_bytes.specs.Bytes.{old_bytes}
use Rattle.old_case.specs.laws.Fractions.{all_usable}
use Rattle.old_bytes.specs.laws.Back.{old_filled}
use Rattle.to_old.proofs.write_line.Goals as goal

pub write-requires : goal.write-requires
write-requires c =
    (search rules, subst (λ (o : OldCase). unusable_in o ≡ false) (sym c.of_case-o.ensures) (all_usable c.args.c c.requires.1))

pub returns : goal.returns
returns c =
    let before = c.args.area.now in
    c.write-2.ensures
    ∙ ap (λ (s : List ℕ). sets before 0 (digits_of s)) (c.write.ensures ∙ old_filled _ _ refl ∙ ap old_bytes c.of_case-o.ensures)
