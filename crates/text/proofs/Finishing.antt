-- The last line of an input. Assumes nothing.
use Prim.Native.Nat.{ℕ, ◌<◌}
use mathlib.Core.Path.{◌≡◌, refl, ap}
use mathlib.Core.List.{List, [], ◌∷◌, append-nil}
use native.Mathlib.Nat.{not-suc-le-zero}
use native.Mathlib.Numerals.{add-one}
use native.Mathlib.Omega.{arith}
use lib.ListN.{length, take}
use lib.Seq.{length-take-le}
use Rattle.text.specs.declared.Stream.{Stream}
use Rattle.text.specs.Lines.{last_line}
use Rattle.text.specs.laws.Reaching.{stands_itself}
use Rattle.text.specs.laws.Texts.{text_one}
use Rattle.text.specs.Streams.{Stands}
use Rattle.text.specs.Promises.{Ready, Finishes}
use Rattle.text.specs.Feeding.{Ends}
use Rattle.text.specs.Records.Text.{none}
use Rattle.text.proofs.Endings.{none_before}
use Rattle.text.proofs.LineTaken.{puts_taken, puts_others}

-- no characters, no line
pub finished_none : {s : Stream} (before : List ℕ) → s.held ≡ 0 → Finishes s before 0 before
unfolding last_line
finished_none before e =
    record {
      written = omega arith;
      same = refl;
      text = λ lines p st. rw (none_before p (rw e at st.held)) none;
      others = refl;
    }

last_is : (p : List ℕ) → 0 < length p → last_line p ≡ p ∷ []
unfolding last_line
last_is [] h = absurd (not-suc-le-zero h)
last_is (x ∷ p) h = refl

-- what is held came from somewhere
some_before : {s : Stream} {lines : ℕ} (p : List ℕ) → Stands s lines p → 0 < s.held → 0 < length p
some_before {s} [] st h =
    omega (arith, ap length st.held, length-take-le s.held s.line (omega (arith, s.within, s.size)))
some_before (x ∷ p) st h = omega arith

pub finished_line
    : {s : Stream} {before after : List ℕ} {r : ℕ} →
    Ready s 1 before →
    0 < s.held →
    length after ≡ length before →
    Ends s [] before after r →
    Finishes s before r after
finished_line {s} ready some same w =
    let itself = w.printed (take s.held s.line) (stands_itself s).held in
    record {
      written = omega (arith, itself.puts.short, ready.room);
      same = same;
      text =
          λ lines p st.
          let line = w.printed p st.held in
          rw (last_is p (some_before p st some), puts_taken line.puts)
          (text_one (rw (st.counted, add-one lines, append-nil p) at line.correct));
      others = puts_others itself.puts;
    }
