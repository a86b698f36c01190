-- Two formulas whose brackets lie apart at one place: the one is the smaller. Assumes nothing.
use Rattle.std.specs.Prelude.{ℕ, ◌≤◌, ◌≡◌, refl}
use Rattle.std.proofs.Common.{sym, subst₂}
use Rattle.std.proofs.Math.Option.{Option, none, some}
use Rattle.exact.specs.Fraction.{◌⊑◌}
use Rattle.exact.specs.Bracket.{Bracket}
use Rattle.exact.specs.Formula.{Formula, bracket_at}
use Rattle.exact.specs.Smaller.{WhollyBelow, IsSmaller}
use Rattle.exact.proofs.laws.Frac.{⊑_trans}
use Rattle.exact.specs.laws.Decide.{⊑-total}
use Rattle.exact.proofs.laws.Meeting.{brackets_meet}
use Rattle.exact.specs.laws.Containment.{Inside}

-- both brackets are there, and the first lies wholly below the second
abbrev pub Apart : Option Bracket → Option Bracket → Type 0
Apart none y = ⊥
Apart (some A) none = ⊥
Apart (some A) (some B) = WhollyBelow A B

told : (x y : Option Bracket) → Apart x y → (A : Bracket) × (B : Bracket) × (x ≡ some A) × (y ≡ some B) × WhollyBelow A B
told none y h = absurd h
told (some A) none h = absurd h
told (some A) (some B) h = (A, B, refl, refl, h)

-- one place is enough: any two brackets of one formula meet
pub apart_smaller : (x y : Formula) (n : ℕ) → 1 ≤ n → Apart (bracket_at x n) (bracket_at y n) → IsSmaller x y
apart_smaller x y n o h =
    let f = told (bracket_at x n) (bracket_at y n) h in
    let between : f.0.hi ⊑ f.1.lo = ⊑-total f.1.lo f.0.hi f.4.less in
    record {
      place = n;
      from_one = o;
      bracket = f.0;
      other = f.1;
      is = f.2;
      other_is = f.3;
      below = f.4;
      never_above =
          record {
            never = λ m j p q A B e d w.
                w.less (⊑_trans (brackets_meet x j n B f.0 d f.2).first (⊑_trans between (brackets_meet y n m f.1 A f.3 e).first));
          };
    }

pub apart_there : {x y : Formula} (s : IsSmaller x y) → Apart (bracket_at x s.place) (bracket_at y s.place)
apart_there s = subst₂ Apart (sym s.is) (sym s.other_is) s.below

-- in intervals that lie apart
inside_apart : (x y : Option Bracket) (I J : Bracket) → Inside x (some I) → Inside y (some J) → WhollyBelow I J → Apart x y
inside_apart none y I J h k l = h
inside_apart (some A) none I J h k l = k
inside_apart (some A) (some B) I J h k l = record { less = λ m. l.less (⊑_trans k.above (⊑_trans m h.below)) }

pub smaller_inside : (x y : Formula) (n : ℕ) → 1 ≤ n → (I J : Bracket) → Inside (bracket_at x n) (some I) → Inside (bracket_at y n) (some J) → WhollyBelow I J → IsSmaller x y
smaller_inside x y n o I J h k l = apart_smaller x y n o (inside_apart (bracket_at x n) (bracket_at y n) I J h k l)
