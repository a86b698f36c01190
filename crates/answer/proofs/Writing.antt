-- From the numbers of an answer to the area that holds them. Assumes nothing.
use mathlib.Core.Path.{◌≡◌, sym, ap, ◌∙◌, subst}
use Prim.Native.Nat.{ℕ, ◌≤◌}
use mathlib.Core.List.{List, ◌++◌}
use native.Mathlib.Omega.{arith}
use lib.ListN.{length, take, drop}
use lib.Seq.{sets, length-sets, take_at, drop_at}
use Rattle.guidance.specs.declared.Case.{Case}
use Rattle.byte_numbers.specs.laws.Storing.{at_start}
use Rattle.layout.specs.laws.Places.{answer_length_lem}
use Rattle.layout.specs.Places.{answer_bytes}
use Rattle.layout.specs.Fitting.{Fit}
use Rattle.answer.specs.declared.Figures.{Figures}
use Rattle.answer.specs.Answer.{readings, Answer, Wrote}
use Rattle.answer.specs.Entering.{FiguresOf}

pub all_fit : {c : Case} {f : Figures} → FiguresOf c f → Fit f.probits
all_fit h =
    record {
      first = record { lower = h.first.lower_fits; upper = h.first.upper_fits };
      second = record { lower = h.second.lower_fits; upper = h.second.upper_fits };
      third = record { lower = h.third.lower_fits; upper = h.third.upper_fits };
      fourth = record { lower = h.fourth.lower_fits; upper = h.fourth.upper_fits };
      fifth = record { lower = h.fifth.lower_fits; upper = h.fifth.upper_fits };
    }

-- the 77 bytes at the area's start

abbrev bytes : Figures → List ℕ
bytes f = answer_bytes f.range f.pressure f.impulse f.probits (readings f.probits)

bytes_length : (f : Figures) → length (bytes f) ≡ 77
bytes_length f = answer_length_lem _ _ _ _ _

module _ {c : Case} {f : Figures} (h : FiguresOf c f) where
  pub answered : Answer c (bytes f)
  answered =
      record {
        size = bytes_length f;
        pascals = f.pressure;
        pascal_seconds = f.impulse;
        probits = f.probits;
        are = ap (λ (r : ℕ). answer_bytes r f.pressure f.impulse f.probits (readings f.probits)) h.range;
        pressure_ends = h.pressure_ends;
        impulse_ends = h.impulse_ends;
        first = h.first;
        second = h.second;
        third = h.third;
        fourth = h.fourth;
        fifth = h.fifth;
      }

  pub wrote : (before after : List ℕ) → 77 ≤ length before → after ≡ sets before 0 (bytes f) → Wrote c before after
  wrote before after room e =
      let long = bytes_length f in
      let start : after ≡ bytes f ++ drop 77 before
      = e ∙ at_start before (bytes f) (omega (arith, long)) ∙ ap (λ (n : ℕ). bytes f ++ drop n before) long in
      let first : take 77 after ≡ bytes f = ap (take 77) start ∙ take_at (bytes f) (drop 77 before) 77 long in
      let rest : drop 77 after ≡ drop 77 before = ap (drop 77) start ∙ drop_at (bytes f) (drop 77 before) 77 long in
      record {
        answer = subst (Answer c) (sym first) answered;
        rest = rest;
        same = ap length e ∙ length-sets before 0 (bytes f);
      }
