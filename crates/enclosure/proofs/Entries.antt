-- The tables of e^: bounds of e^a, proved from the series, and one test over each table, which the checker computes: entry i lies
-- around the i-th powers of the bounds. Assumes nothing.
use mathlib.Core.Path.{◌≡◌, refl}
use mathlib.Core.Bool.{Bool}
use mathlib.Core.List.{List}
use Prim.Native.Nat.{ℕ, suc, ◌+◌, ◌*◌, ◌^◌, ◌≤◌, ◌<◌}
use native.Mathlib.Omega.{arith}
use lib.Dec.{T, leb, leb→le}
use lib.ListN.{length, get_or}
use Rattle.exact.specs.Fraction.{Ratio, ◌≼◌, ◌≈◌, Above0, whole, ◌⊕◌, ◌⊗◌, ◌⊖◌, recip, power, sum}
use Rattle.exact.proofs.laws.Ratio.{to≼, from≼, ≼_refl}
use Rattle.exact.specs.Series.{factorial, exp_term, exp_lower, exp_tail, exp_upper}
use Rattle.exact.proofs.laws.Tables.{both, both_left, both_right, every, at_entry}
use Rattle.exact.specs.laws.Reduction.{Most, Least}
use Rattle.exact.proofs.laws.Reduction.{most_upper, most_mono, most_times, least_mono, least_times}
use Rattle.span.specs.declared.Span.{Span}
use Rattle.span.specs.Spans.{unit}
use Rattle.enclosure.specs.ExpTables.{entry_of, small_table, sixteenth_table, one_table, sixteen_table}
use Rattle.enclosure.specs.ExpSteps.{low, high, binary, ExpIn}
use Rattle.enclosure.proofs.ClosedFractions.{below, tested}

-- bounds of e^a
pub record Base (a : Ratio) (t : ℕ) (L U : Ratio) : Type 0 where
  pub lower : Least t a L
  pub upper : Most a U

-- the test of the i-th entry: normal, one unit wide, its exponent at most h, and around L^i and U^i
abbrev pub fits : Ratio → Ratio → ℕ → ℕ → Span → Bool
fits L U h i r =
    both (leb (2 ^ 30) r.hi) (both (leb r.hi (2 ^ 31)) (both (leb r.lo r.hi) (both (leb r.hi (r.lo + 1))
    (both (leb 994 r.e) (both (leb r.e h) (both (below (low r) (power L i)) (below (power U i ⊗ whole 1) (high r))))))))

-- what a passed test says
passed : {a L U : Ratio} {t : ℕ} → Base a t L U → (u h i : ℕ) → suc (i * t) ≤ u → (r : Span) → T (fits L U h i r) → ExpIn (whole 1) u 1 h (whole i ⊗ a) r
passed {U = U} b u h i m r x1 =
    let x2 = both_right _ _ x1 in
    let x3 = both_right _ _ x2 in
    let x4 = both_right _ _ x3 in
    let x5 = both_right _ _ x4 in
    let x6 = both_right _ _ x5 in
    let x7 = both_right _ _ x6 in
    let least : 2 ^ 30 ≤ r.hi = leb→le _ _ (both_left _ _ x1) in
    let thin : r.hi ≤ r.lo + 1 = leb→le _ _ (both_left _ _ x4) in
    record {
      normal = record { least = least; most = leb→le _ _ (both_left _ _ x2); ordered = leb→le _ _ (both_left _ _ x3) };
      width = record { narrow = omega arith };
      least = leb→le _ _ (both_left _ _ x5);
      most = leb→le _ _ (both_left _ _ x6);
      lower = least_mono m (≼_refl _) (least_times b.lower i) (tested _ _ (both_left _ _ x7));
      bound = power U i;
      upper = most_times b.upper i;
      room = tested _ _ (both_right _ _ x7);
    }

-- a table that passes the test at each entry
pub entry_in : {a L U : Ratio} {t : ℕ} → Base a t L U → (u h : ℕ) (xs : List Span) → T (every (fits L U h) 0 xs)
    → (d : ℕ) → d < length xs → suc (d * t) ≤ u → {r : Span} → r ≡ get_or xs d (entry_of 0 0) → ExpIn (whole 1) u 1 h (whole d ⊗ a) r
entry_in b u h xs t d l m e = rw e (passed b u h d m _ (at_entry _ (entry_of 0 0) xs t d l))

-- e^(1/256), by 7 terms

abbrev small_low : Ratio
small_low = binary 18518942588666869714 64

abbrev small_high : Ratio
small_high = binary 18518942588666869715 64

small_room : Above0 (whole 8 ⊖ binary 1 8)
unfolding binary whole ◌⊖◌
small_room = record { above = omega arith }

small_base : Base (binary 1 8) 7 small_low small_high
unfolding binary exp_lower exp_upper exp_tail exp_term sum power factorial whole recip ◌⊖◌ ◌⊗◌ ◌⊕◌
small_base =
    record {
      lower = record { begin = tested _ _ tt };
      upper = most_mono (≼_refl _) (most_upper _ 7 small_room) (tested _ _ tt);
    }

pub small_in : {d : ℕ} {r : Span} → r ≡ get_or small_table d (entry_of 0 0) → d < 16 → ExpIn (whole 1) 200 1 994 (whole d ⊗ binary 1 8) r
unfolding small_table both low high binary unit whole power ◌⊗◌
small_in e l = entry_in small_base 200 994 small_table tt _ l (omega arith) e

-- e^(1/16), by 11 terms

abbrev sixteenth_low : Ratio
sixteenth_low = binary 19636456851539679189 64

abbrev sixteenth_high : Ratio
sixteenth_high = binary 19636456851539679190 64

sixteenth_room : Above0 (whole 12 ⊖ binary 1 4)
unfolding binary whole ◌⊖◌
sixteenth_room = record { above = omega arith }

sixteenth_base : Base (binary 1 4) 11 sixteenth_low sixteenth_high
unfolding binary exp_lower exp_upper exp_tail exp_term sum power factorial whole recip ◌⊖◌ ◌⊗◌ ◌⊕◌
sixteenth_base =
    record {
      lower = record { begin = tested _ _ tt };
      upper = most_mono (≼_refl _) (most_upper _ 11 sixteenth_room) (tested _ _ tt);
    }

pub sixteenth_in : {d : ℕ} {r : Span} → r ≡ get_or sixteenth_table d (entry_of 0 0) → d < 16 → ExpIn (whole 1) 200 1 995 (whole d ⊗ binary 1 4) r
unfolding sixteenth_table both low high binary unit whole power ◌⊗◌
sixteenth_in e l = entry_in sixteenth_base 200 995 sixteenth_table tt _ l (omega arith) e

-- e, by 21 terms

abbrev one_low : Ratio
one_low = binary 50143449209799256682 64

abbrev one_high : Ratio
one_high = binary 50143449209799256683 64

one_room : Above0 (whole 22 ⊖ whole 1)
unfolding binary whole ◌⊖◌
one_room = record { above = omega arith }

one_base : Base (whole 1) 21 one_low one_high
unfolding binary exp_lower exp_upper exp_tail exp_term sum power factorial whole recip ◌⊖◌ ◌⊗◌ ◌⊕◌
one_base =
    record {
      lower = record { begin = tested _ _ tt };
      upper = most_mono (≼_refl _) (most_upper _ 21 one_room) (tested _ _ tt);
    }

pub one_in : {d : ℕ} {r : Span} → r ≡ get_or one_table d (entry_of 0 0) → d < 16 → ExpIn (whole 1) 400 1 1015 (whole d ⊗ whole 1) r
unfolding one_table both low high binary unit whole power ◌⊗◌
one_in e l = entry_in one_base 400 1015 one_table tt _ l (omega arith) e

-- e^16, as e to the 16th

abbrev sixteen_low : Ratio
sixteen_low = binary 152662216296891401 34

abbrev sixteen_high : Ratio
sixteen_high = binary 152662216296891402 34

sixteen_times : whole 16 ⊗ whole 1 ≈ whole 16
unfolding whole ◌⊗◌
sixteen_times = record { cross = refl }

sixteen_lower : sixteen_low ≼ power one_low 16
unfolding binary whole power ◌⊗◌
sixteen_lower = tested _ _ tt

sixteen_upper : power one_high 16 ≼ sixteen_high
unfolding binary whole power ◌⊗◌
sixteen_upper = tested _ _ tt

sixteen_base : Base (whole 16) 337 sixteen_low sixteen_high
sixteen_base =
    record {
      lower = least_mono (omega arith) (to≼ sixteen_times) (least_times one_base.lower 16) sixteen_lower;
      upper = most_mono (from≼ sixteen_times) (most_times one_base.upper 16) sixteen_upper;
    }

pub sixteen_in : {d : ℕ} {r : Span} → r ≡ get_or sixteen_table d (entry_of 0 0) → d < 32 → ExpIn (whole 1) 10500 1 1709 (whole d ⊗ whole 16) r
unfolding sixteen_table both low high binary unit whole power ◌⊗◌
sixteen_in e l = entry_in sixteen_base 10500 1709 sixteen_table tt _ l (omega arith) e
