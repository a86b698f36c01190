-- What a bracket that is there tells of those that it is made of, and what the later brackets have from it. Assumes nothing.
use Rattle.std.specs.Prelude.{ℕ, ◌+◌, ◌≤◌}
use Rattle.std.proofs.Math.Option.{Option, none, some}
use Rattle.std.proofs.Common.{mul-le-mul, mul-le-mul_right, arith}
use Rattle.exact.specs.Fraction.{Ratio, whole, Frac, ◌⊑◌, Positive, one_f, of_ratio, neg, ◌⊠◌}
use Rattle.exact.specs.Bracket.{Bracket}
use Rattle.exact.specs.Formula.{Formula, bracket_at, lift, ◌>>◌, quotient_b, ln_b}
use Rattle.exact.specs.laws.Containment.{Inside}
use Rattle.exact.specs.laws.Decide.{dec_positives, decided}
use Rattle.exact.proofs.laws.Frac.{⊑_refl, ⊑_trans, neg_anti, ⊞-mono}
use Rattle.exact.proofs.laws.Meeting.{Meets, meeting}
use Rattle.exact.proofs.laws.Narrowing.{All, Narrow, BoundedEnds, Divisor}
use Rattle.exact.proofs.laws.Nearness.{Bounded, Beyond, beyond_mono}
use Rattle.exact.proofs.laws.Nesting.{nested}
use Rattle.exact.specs.laws.Pairs.{◌⊆◌}
use Rattle.exact.proofs.laws.Pairs.{lo_in, hi_in}
use Rattle.exact.specs.Holding.{◌∈◌}

abbrev pub There : Option Bracket → Type 0
There x = All (λ A. Unit {0}) x

pub both_there : (f : Bracket → Bracket → Bracket) (x y : Option Bracket) → There (lift f x y) → There x × There y
unfolding lift ◌>>◌
both_there f none y t = absurd t
both_there f (some A) none t = absurd t
both_there f (some A) (some B) t = (tt, tt)

pub first_there : (f : Bracket → Option Bracket) (x : Option Bracket) → There (x >> f) → There x
unfolding ◌>>◌
first_there f none t = t
first_there f (some A) t = tt

within_by : (M : ℕ) (x : Frac) → x.plus + x.minus ≤ M → Bounded M x
unfolding neg of_ratio whole
within_by M x h = record { least = omega (arith, mul-le-mul h x.positive); most = omega (arith, mul-le-mul h x.positive) }

pub bounded_at : (x : Option Bracket) → There x → (M : ℕ) × All (BoundedEnds M) x
bounded_at none t = absurd t
bounded_at (some A) t =
    let M : ℕ = A.lo.plus + A.lo.minus + (A.hi.plus + A.hi.minus) in
    (M, record { least = within_by M A.lo (omega arith); most = within_by M A.hi (omega arith) })

beyond_by : (x : Frac) → Positive x → Beyond x.den x
unfolding whole of_ratio one_f ◌⊠◌
beyond_by x p = record { beyond = omega (arith, mul-le-mul_right x.den p.above) }

divisor : (B : Bracket) → Positive B.lo → B.lo ⊑ B.hi → (R : ℕ) × Divisor R B
divisor B p v = let b = beyond_by B.lo p in (B.lo.den, record { least = b; most = beyond_mono b v })

pub divisor_of : (x y : Option Bracket) → Meets y y → There (x >> (λ A. y >> quotient_b A)) → There x × There y × ((R : ℕ) × All (Divisor R) y)
unfolding ◌>>◌ quotient_b
divisor_of none y v t = absurd t
divisor_of (some A) none v t = absurd t
divisor_of (some A) (some B) v t =
    decided (λ o. There o → Unit {0} × Unit {0} × ((R : ℕ) × Divisor R B)) (dec_positives B.lo B.hi) (λ d t. (tt, tt, divisor B d.0 v)) (λ d t. absurd t) t

pub argument_of : (n : ℕ) (x : Option Bracket) → Meets x x → There (x >> ln_b n) → (R : ℕ) × All (Divisor R) x
unfolding ◌>>◌ ln_b
argument_of n none v t = absurd t
argument_of n (some B) v t = decided (λ o. There o → (R : ℕ) × Divisor R B) (dec_positives B.lo B.hi) (λ d t. divisor B d.0 v) (λ d t. absurd t) t

-- what a bracket has, so has one that lies inside it
abbrev pub Inherited : (Bracket → Type 0) → Type 0
Inherited P = (A B : Bracket) → B ⊆ A → B.lo ⊑ B.hi → P A → P B

inherited : (P : Bracket → Type 0) → Inherited P → (x y : Option Bracket) → Inside y x → Meets y y → All P x → All P y
inherited P i none y h v p = absurd p
inherited P i (some A) none h v p = absurd h
inherited P i (some A) (some B) h v p = i A B h v p

pub later : (P : Bracket → Type 0) → Inherited P → (x : Formula) (m n : ℕ) → 1 ≤ m → m ≤ n → All P (bracket_at x m) → All P (bracket_at x n)
later P i x m n o l p = inherited P i (bracket_at x m) (bracket_at x n) (nested x m n o l) (meeting x n n) p

bounded_in : {M : ℕ} {A : Bracket} {x : Frac} → BoundedEnds M A → x ∈ A → Bounded M x
bounded_in b i = record { least = ⊑_trans (neg_anti i.above) b.least.least; most = ⊑_trans i.below b.most.most }

pub bounded_inherited : (M : ℕ) → Inherited (BoundedEnds M)
bounded_inherited M A B h v b = record { least = bounded_in b (lo_in h v); most = bounded_in b (hi_in h v) }

pub divisor_inherited : (R : ℕ) → Inherited (Divisor R)
divisor_inherited R A B h v d = record { least = beyond_mono d.least h.above; most = beyond_mono d.least (⊑_trans h.above v) }

pub narrow_inherited : (ε : Ratio) → Inherited (Narrow ε)
narrow_inherited ε A B h v k =
    record { width = record { up = ⊑_trans h.below (⊑_trans k.width.up (⊞-mono h.above (⊑_refl (of_ratio ε)))) } }
