-- A line's verdict is that of its first 49 characters: past 48 they only say that it is too long. Assumes nothing.
use Rattle.std.specs.Prelude.{ℕ, ◌≤◌, ◌<◌, ◌≡◌, List, length, take, leb}
use Rattle.std.proofs.Common.{sym, ◌∙◌, arith, take_all, length-take-le, leb-true, leb-false}
use Rattle.frame.specs.Verdicts.{line_verdict}
use Rattle.frame.specs.laws.Lengths.{is_neither}
use Rattle.frame.specs.laws.Verdicts.{line_length}
use Rattle.exact.proofs.laws.Tests.{settle}
use Rattle.text.specs.Records.{Record}

pub verdict_capped : (line : List ℕ) (room : ℕ) → line_verdict (take 49 line) room ≡ line_verdict line room
verdict_capped line room =
    settle (leb (length line) 49)
    (λ e.
    let most : length line ≤ 49 = leb-true (length line) 49 e in
    rw (take_all 49 line most))
    (λ e.
    let more : 49 < length line = leb-false (length line) 49 e in
    let cut : length (take 49 line) ≡ 49 = length-take-le 49 line (omega arith) in
    line_length (take 49 line) room (is_neither 44 48 (take 49 line) (λ x. omega arith) (λ x. omega arith))
    ∙ sym (line_length line room (is_neither 44 48 line (λ x. omega arith) (λ x. omega arith))))

pub record_capped : {k : ℕ} (line : List ℕ) {text : List ℕ} → Record k (take 49 line) text → Record k line text
record_capped line r =
    record {
      frame = r.frame;
      answers = rw (verdict_capped line 77) at r.answers;
      printed = rw (verdict_capped line 77) at r.printed;
    }
