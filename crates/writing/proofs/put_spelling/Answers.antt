-- The digits of the frame of the case as it is spelled, of 22 bytes or of 24.
use Rattle.std.proofs.Common.{◌≡◌, ◌≤◌, ◌*◌, ℕ, ap, ◌∙◌, List, length, arith}
use Rattle.std.proofs.lemmas.List.Edits.{sets}
use Rattle.guidance.specs.declared.Case.{Case}
use Rattle.hexadecimals.specs.Written.{digits_of}
use Rattle.hexadecimals.specs.laws.Writing.{length_digits}
use Rattle.fields.specs.Bytes.{frame_bytes}
use Rattle.fields.specs.laws.Back.{standard_length, other_length}
use Rattle.writing.specs.Spelling.{as_spelled, spelling}
use Rattle.writing.proofs.put_spelling.Goals as goal

module _ (c d : Case) (is : d ≡ as_spelled c) where
  spelled : digits_of (frame_bytes d) ≡ spelling c
  unfolding spelling
  spelled = ap (λ (k : Case). digits_of (frame_bytes k)) is

  room : (n : ℕ) (area : List ℕ) → length (frame_bytes d) ≡ n → length (spelling c) ≤ length area → 2 * n ≤ length area
  room n area e h = omega (arith, e, length_digits (frame_bytes d), ap length spelled, h)

pub put_digits-requires : goal.put_digits-requires
put_digits-requires c =
    let long = standard_length _ c.if-spelled-eq-STANDARD.true in
    (long, room _ _ c.as_spelled-spelled.ensures 22 c.args.area.now long c.requires)

pub put_digits-requires-else-spelled-eq-STANDARD : goal.put_digits-requires-else-spelled-eq-STANDARD
put_digits-requires-else-spelled-eq-STANDARD c =
    let long = other_length _ c.if-spelled-eq-STANDARD.false in
    (long, room _ _ c.as_spelled-spelled.ensures 24 c.args.area.now long c.requires)

pub returns-then-spelled-eq-STANDARD : goal.returns-then-spelled-eq-STANDARD
returns-then-spelled-eq-STANDARD c =
    c.put_digits.ensures ∙ ap (sets c.args.area.now 0) (spelled _ _ c.as_spelled-spelled.ensures)

pub returns-else-spelled-eq-STANDARD : goal.returns-else-spelled-eq-STANDARD
returns-else-spelled-eq-STANDARD c =
    c.put_digits-else-spelled-eq-STANDARD.ensures ∙ ap (sets c.args.area.now 0) (spelled _ _ c.as_spelled-spelled.ensures)
