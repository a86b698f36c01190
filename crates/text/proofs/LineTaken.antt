-- One line taken, or the rest of a part. Assumes nothing.
use Prim.Native.Nat.{ℕ, ◌+◌, ◌≤◌, ◌<◌}
use mathlib.Core.Path.{◌≡◌, refl, ap, ◌∙◌}
use mathlib.Core.List.{List, ◌++◌}
use native.Mathlib.Nat.{add-zero}
use native.Mathlib.Numerals.{add-one}
use native.Mathlib.Omega.{arith}
use lib.ListN.{length, take, drop}
use lib.Seq.{take-length, length-take-le, take-append_seam, drop-append_seam}
use Rattle.text.specs.declared.Stream.{Stream}
use Rattle.text.specs.Feeding.{end_of, Held, Ends}
use Rattle.text.specs.laws.Lines.{ended_characters, left_characters, ended_line, left_line}
use Rattle.text.specs.Records.{longest}
use Rattle.text.specs.laws.Reaching.{stands_itself}
use Rattle.text.specs.laws.Texts.{text_one}
use Rattle.text.specs.Writers.{Puts}
use Rattle.text.specs.Streams.{Stands}
use Rattle.text.specs.Promises.{Taken}
use Rattle.text.specs.Records.Text.{none}
use Rattle.text.proofs.Endings.{take_cap}

-- what is written is the text, and the rest is as it was
pub puts_taken : {text before after : List ℕ} {most r : ℕ} → Puts text most before after r → take r after ≡ text
puts_taken {text} {before} p = rw (p.bytes, p.size) (take-append_seam text (drop (length text) before))

pub puts_others : {text before after : List ℕ} {most r : ℕ} → Puts text most before after r → drop r after ≡ drop r before
puts_others {text} {before} p = rw (p.bytes, p.size) (drop-append_seam text (drop (length text) before))

-- more characters of the line
pub stands_held
    : {s t : Stream} {lines : ℕ} {p chars : List ℕ} → Held s chars t → Stands s lines p → Stands t lines (p ++ chars)
stands_held {p = p} {chars} h st =
    record {
      counted = h.lines ∙ st.counted;
      held = h.line ∙ ap (λ (l : List ℕ). take 49 (l ++ chars)) st.held ∙ take_cap 49 p chars;
    }

-- no line ends in the part
pub taken_rest
    : {s t : Stream} {part : List ℕ} (before : List ℕ) →
    end_of part ≡ length part →
    Held s part t →
    Taken s part before t (record { used = length part; written = 0 }) before
taken_rest {s} {t} {part} before all h =
    let whole : take (end_of part) part ≡ part = rw all (take-length part) in
    record {
      used = omega arith;
      written = omega arith;
      same = refl;
      text = λ lines p st. rw (← all, ended_characters p part) none;
      others = refl;
      reached =
          record {
            lines = omega (arith, h.lines);
            stands =
                λ lines p st.
                rw (← all, ended_characters p part, left_characters p part, whole, add-zero lines) (stands_held h st);
          };
      begun = omega arith;
    }

-- the first line ends in the part
pub taken_line
    : {s t : Stream} {part before after : List ℕ} {end n : ℕ} →
    end ≡ end_of part →
    end < length part →
    longest ≤ length before →
    length after ≡ length before →
    Ends s (take end part) before after n →
    t.lines ≡ s.lines + 1 →
    t.held ≡ 0 →
    Taken s part before t (record { used = end + 1; written = n }) after
taken_line {s} {t} {part} {before} {after} {end} {n} e inside room same w counted none_held =
    let found : end_of part < length part = rw e at inside in
    let itself = w.printed (take s.held s.line) (stands_itself s).held in
    let short = itself.puts.short in
    record {
      used = omega arith;
      written = omega arith;
      same = same;
      text =
          λ lines p st.
          let line = w.printed p st.held in
          rw (add-one end, e, ended_line p part found, puts_taken line.puts)
          (text_one (rw (st.counted, add-one lines, e) at line.correct));
      others = puts_others itself.puts;
      reached =
          record {
            lines = omega (arith, length-take-le (end + 1) part (omega arith));
            stands =
                λ lines p st.
                rw (add-one end, e, ended_line p part found, left_line p part found)
                (record {
                  counted = counted ∙ ap (λ (k : ℕ). k + 1) st.counted;
                  held = rw none_held;
                });
          };
      begun = omega arith;
    }
