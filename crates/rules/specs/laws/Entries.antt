-- Of the entries: refusal 8 never comes, nor 2 from a frame, and a line is answered as the frame that it spells. Assumes nothing.
use Rattle.std.specs.Prelude.{ℕ, ◌≡◌, true, List, Err, Ok}
use Rattle.std.proofs.Common.{subst, ap, arith}
use Rattle.hexadecimals.specs.Digits.{all_digits, bytes_of}
use Rattle.refusals.specs.declared.Fault.TheVariants.{Digit}
use Rattle.frame.specs.declared.Refusal.{Refusal}
use Rattle.frame.specs.declared.Refusal.TheVariants.{Faulty, Space}
use Rattle.frame.specs.Verdict.{Verdict}
use Rattle.frame.specs.Verdicts.{answer_length, frame_verdict, line_verdict}
use Rattle.frame.specs.Tests.{either}
use Rattle.frame.specs.laws.Verdicts.{line_frame, frame_no_digit, frame_no_space, line_no_space}
use Rattle.rules.specs.Answer.{Answer}
use Rattle.rules.specs.Rules.{Answers, FromFrame, FromLine}

-- a refusal that comes is the verdict's
refused_as : (v : Verdict) (q : Refusal) → Answers v (Err q) → v ≡ Err q
refused_as (Ok c) q h = absurd h
refused_as (Err r) q h = let e : r ≡ q = cc in ap {B = Verdict} Err e

pub frame_never_space : (frame : List ℕ) → FromFrame frame (Err Space) → ⊥
frame_never_space frame h = frame_no_space frame answer_length (omega arith) (refused_as (frame_verdict frame answer_length) Space h)

pub frame_never_digit : (frame : List ℕ) → FromFrame frame (Err (Faulty Digit)) → ⊥
frame_never_digit frame h = frame_no_digit frame answer_length (refused_as (frame_verdict frame answer_length) (Faulty Digit) h)

pub line_never_space : (line : List ℕ) → FromLine line (Err Space) → ⊥
line_never_space line h = line_no_space line answer_length (omega arith) (refused_as (line_verdict line answer_length) Space h)

pub line_as_frame : (line : List ℕ) (a : Answer) → either 44 48 line ≡ true → all_digits line ≡ true → FromLine line a → FromFrame (bytes_of line) a
line_as_frame line a h d f = subst (λ (v : Verdict). Answers v a) (line_frame line answer_length h d) f
