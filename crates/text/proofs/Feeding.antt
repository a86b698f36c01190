-- One turn of the loop that feeds: what was taken, and one step more. Assumes nothing.
use Prim.Native.Nat.{ℕ, suc, ◌+◌, ◌-◌}
use mathlib.Core.Path.{◌≡◌, refl, ap, ◌∙◌}
use mathlib.Core.List.{List, ◌++◌}
use native.Mathlib.Nat.{suc-add}
use native.Mathlib.Omega.{arith}
use lib.ListN.{length, take, drop, length-append, length-drop}
use lib.Seq.{take-add, drop-drop, length-take-le, take-append-add, drop-append-add}
use borrow.Rule.Slice.PartMut.{mid_of, put_mid}
use Rattle.text.specs.declared.Stream.{Stream}
use Rattle.text.specs.declared.Fed.{Fed}
use Rattle.text.specs.Lines.{ended, left}
use Rattle.text.specs.laws.Lines.{ended_append}
use Rattle.text.specs.Records.{Text}
use Rattle.text.specs.laws.Texts.{text_append}
use Rattle.text.specs.Streams.{Stands}
use Rattle.text.specs.Promises.{Taken}
use Rattle.text.specs.Feeding.{Steps}
use Rattle.text.specs.laws.Reaching.{reached_none, reached_append}
use Rattle.text.specs.Records.Text.{none}
use Rattle.text.specs.laws.Tails.{part_to_end, put_to_end}

-- before the first turn nothing is taken
pub taken_none : (s : Stream) (part before : List ℕ) → Taken s part before s (record { used = 0; written = 0 }) before
unfolding ended
taken_none s part before =
    record {
      used = omega arith;
      written = omega arith;
      same = refl;
      text = λ lines p st. none;
      others = refl;
      reached = reached_none s;
      begun = omega arith;
    }

module _
    {s t u : Stream} {part before : List ℕ} {fed r : Fed} {out tail : List ℕ}
    (so_far : Taken s part before t fed out)
    (more : Taken t (drop fed.used part) (drop fed.written out) u r tail) where
  -- the bytes of both
  both : take (fed.used + r.used) part ≡ take fed.used part ++ take r.used (drop fed.used part)
  both = take-add fed.used r.used part

  size : length (take fed.written out) ≡ fed.written
  size = length-take-le fed.written out (omega (arith, so_far.written, so_far.same))

  taken : take (fed.written + r.written) (take fed.written out ++ tail) ≡ take fed.written out ++ take r.written tail
  taken = rw size at (take-append-add (take fed.written out) tail r.written)

  dropped : drop (fed.written + r.written) (take fed.written out ++ tail) ≡ drop r.written tail
  dropped = rw size at (drop-append-add (take fed.written out) tail r.written)

  text_again
      : (lines : ℕ) (p : List ℕ) →
      Stands s lines p →
      Text (suc lines) (ended p (take (fed.used + r.used) part)) (take (fed.written + r.written) (take fed.written out ++ tail))
  text_again lines p st =
      let a = take fed.used part in
      rw (both, ended_append p a (take r.used (drop fed.used part)), taken)
      (text_append
      (so_far.text lines p st)
      (rw (suc-add lines (length (ended p a)))
      (more.text (lines + length (ended p a)) (left p a) (so_far.reached.stands lines p st))))

  pub taken_again
      : Taken s part before u (record { used = fed.used + r.used; written = fed.written + r.written }) (take fed.written out ++ tail)
  taken_again =
      record {
        used = omega (arith, so_far.used, more.used, length-drop fed.used part);
        written = omega (arith, so_far.written, so_far.same, more.written, length-drop fed.written out);
        same = omega (arith, length-append (take fed.written out) tail, size, more.same, so_far.same, so_far.written, length-drop fed.written out);
        text = text_again;
        others =
            dropped
            ∙ more.others
            ∙ ap (drop r.written) so_far.others
            ∙ drop-drop r.written fed.written before;
        reached = rw both (reached_append (take fed.used part) (take r.used (drop fed.used part)) so_far.reached more.reached);
        begun = omega (arith, so_far.begun, more.begun);
      }

-- a turn, as the loop has its parts
pub turn
    : {s t u : Stream} {part before : List ℕ} {fed r : Fed} {out tail : List ℕ} →
    Taken s part before t fed out →
    Steps t (mid_of fed.used (length part - fed.used) part) (mid_of fed.written (length out - fed.written) out) u r tail →
    Taken
    s
    part
    before
    u
    (record { used = fed.used + r.used; written = fed.written + r.written })
    (put_mid fed.written (length out - fed.written) out tail)
turn {part = part} {fed = fed} {out = out} {tail = tail} so_far step =
    rw (put_to_end fed.written out tail)
    (taken_again so_far (rw (part_to_end fed.used part, part_to_end fed.written out) at step.taken))
