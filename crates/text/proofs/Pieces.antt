-- The pieces of a record, written one behind the other. Assumes nothing.
use Rattle.std.specs.Prelude.{Err, Ok}
use Prim.Native.Nat.{ℕ, ◌+◌, ◌-◌, ◌≤◌}
use mathlib.Core.Path.{◌≡◌, ap, ◌∙◌}
use mathlib.Core.List.{List, [], ◌∷◌, ◌++◌}
use native.Mathlib.Omega.{arith}
use lib.ListN.{length, set, length-append}
use lib.Seq.{append_snoc, take_all}
use borrow.Rule.Slice.PartMut.{mid_of, put_mid}
use Rattle.frame.specs.Verdict.{Verdict}
use Rattle.frame.specs.Verdicts.{line_verdict}
use Rattle.answer.specs.Answer.{Answered, FromLine}
use Rattle.text.specs.Lines.{lf}
use Rattle.text.specs.Digits.{decimal}
use Rattle.text.specs.Records.{said, Answers, longest}
use Rattle.text.specs.Writers.{Puts, Printed}
use Rattle.text.specs.laws.Writers.{over_store}
use Rattle.text.proofs.Behind.{behind}

-- an area of 77 bytes is the answer frame
answers : (v : Verdict) (before after : List ℕ) → length before ≡ 77 → Answered v before after → Answers v after
unfolding Answers
answers (Ok c) before after size a =
    let most : length after ≤ 77 = omega (arith, a.same) in
    rw (take_all 77 after most) at a.answer
answers (Err r) before after size a = tt

-- a number, a space, what the verdict says, LF
pub printed
    : {k : ℕ} {line out zeros bytes first part : List ℕ} {v : Verdict} {n m : ℕ} →
    longest ≤ length out →
    length zeros ≡ 77 →
    FromLine line zeros v bytes →
    Puts (decimal k) 20 out first n →
    Puts (said v bytes) 155 (mid_of (n + 1) (length (set first n 32) - (n + 1)) (set first n 32)) part m →
    Printed k line out (set (put_mid (n + 1) (length (set first n 32) - (n + 1)) (set first n 32) part) (n + 1 + m) lf) (n + 1 + m + 1)
printed {k} {line} {out} {zeros} {bytes} {first} {part} {v} {n} {m} room size answer number says =
    let judged : v ≡ line_verdict line 77 = answer.verdict ∙ ap (line_verdict line) size in
    let head = decimal k ++ (32 ∷ []) in
    let body = head ++ said v bytes in
    let n_is : n ≡ length (decimal k) = number.size in
    let m_is : m ≡ length (said v bytes) = says.size in
    let head_size : n + 1 ≡ length head = omega (arith, length-append (decimal k) (32 ∷ [])) in
    let body_size : n + 1 + m ≡ length body = omega (arith, length-append head (said v bytes)) in
    let few : n ≤ 20 = number.short in
    let short : m ≤ 155 = says.short in
    let spaced = over_store (decimal k) out first n 32 number.bytes n_is (omega arith) in
    let told = behind head (said v bytes) out (set first n 32) part (n + 1) spaced head_size says.bytes in
    record {
      text = body ++ (lf ∷ []);
      correct =
          record {
            frame = bytes;
            answers = rw judged at (answers v zeros bytes size answer.area);
            printed = rw (← judged) (ap (λ (t : List ℕ). t ++ (lf ∷ [])) (append_snoc (decimal k) 32 (said v bytes)));
          };
      puts =
          record {
            size = omega (arith, length-append body (lf ∷ []));
            short = omega arith;
            bytes =
                over_store body out (put_mid (n + 1) (length (set first n 32) - (n + 1)) (set first n 32) part) (n + 1 + m) lf told body_size (omega arith);
          };
    }
