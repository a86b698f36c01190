-- How narrow the brackets of ln and e^ are, from how narrow those of their arguments are. Assumes nothing.
use Rattle.std.specs.Prelude.{ℕ, suc, ◌+◌, ◌*◌, ◌≤◌}
use Rattle.std.proofs.Math.Option.{Option, none, some}
use Rattle.std.proofs.Math.Nat.{mul-le-mul_right}
use native.Mathlib.Omega.{arith}
use Rattle.exact.specs.Fraction.{Ratio, ◌≼◌, Above0, whole, ◌⊕◌, ◌⊗◌, ◌⊖◌, recip, power, Frac, ◌⊑◌, Positive, of_ratio, magnitude, ◌⊠◌}
use Rattle.exact.specs.Bracket.{Bracket}
use Rattle.exact.specs.LnExp.{exp_lower_at, exp_upper_at}
use Rattle.exact.specs.Formula.{lift, ◌>>◌, ln_b, exp_b}
use Rattle.exact.specs.laws.Decide.{dec_positives, decided}
use Rattle.exact.specs.laws.Divisors.{magnitude_above}
use Rattle.exact.proofs.laws.EndsMeet.{magnitude_mono}
use Rattle.exact.proofs.laws.ExpSpread.{Near, exp_spread_signed}
use Rattle.exact.proofs.laws.Frac.{⊑_refl, ⊑_trans, ⊞-mono}
use Rattle.exact.proofs.laws.Ln.{whole_mono}
use Rattle.exact.proofs.laws.Meeting.{ends, Meets}
use Rattle.exact.proofs.laws.Narrowing.{All, Narrow, BoundedEnds, Slim, Divisor}
use Rattle.exact.proofs.laws.Nearness.{wider, chained, Apart, Bounded, upto_times, Beyond, beyond_positive, beyond_least}
use Rattle.exact.proofs.laws.Octaves.{difference, suc_pow}
use Rattle.exact.proofs.laws.Points.{signed_most}
use Rattle.exact.proofs.laws.Power.{half_below_one, whole_bound}
use Rattle.exact.proofs.laws.Ratio.{≼_refl, ≼_trans, to≼, ⊕-comm, ⊕-mono, ⊕-upper, ⊗_mono}
use Rattle.exact.proofs.laws.Spread.{octaves, octaves_most, spread, sum_signed, ln_spread_signed}
use Rattle.exact.specs.laws.Width.{half}
use Rattle.exact.proofs.laws.Width.{ninth}

-- ln t, for t within M and R t ≥ 1: t lies within M + R octaves of 1

magnitude_bounded : {M : ℕ} {t : Frac} → Bounded M t → magnitude t ≼ whole M
magnitude_bounded {M} w = ≼_trans (magnitude_mono w.most) (signed_most (whole M))

magnitude_beyond : {R : ℕ} {t : Frac} → Beyond R t → (magnitude t).den ≤ R * (magnitude t).num
unfolding magnitude
magnitude_beyond b = beyond_least b

octaves_bounded : {M R : ℕ} {t : Frac} → Bounded M t → Beyond R t → (p : Positive t) → octaves t p ≤ M + R
octaves_bounded {M} {R} {t} w b p =
    octaves_most t p (M + R)
    (omega (arith, whole_bound (magnitude t) M (magnitude_bounded w), mul-le-mul_right (magnitude t).den (suc_pow (M + R))))
    (omega (arith, magnitude_beyond b, mul-le-mul_right (magnitude t).num (suc_pow (M + R))))

recip_beyond : (R : ℕ) {x : Ratio} (u : Above0 x) → x.den ≤ R * x.num → recip x u ≼ whole R
unfolding recip whole
recip_beyond R u h = omega arith

ln_narrow : {M R : ℕ} {ε : Ratio} {A : Bracket} → A.lo ⊑ A.hi → Slim M ε A → Divisor R A → (n : ℕ)
    → All (Narrow (ε ⊗ whole R ⊕ whole (2 * suc (M + R)) ⊗ power ninth n)) (ln_b n A)
unfolding ln_b spread
ln_narrow {M} {R} {ε} {A} v s d n =
    decided (All (Narrow (ε ⊗ whole R ⊕ whole (2 * suc (M + R)) ⊗ power ninth n))) (dec_positives A.lo A.hi)
    (λ e.
    record {
      width =
          wider
          (⊕-mono (⊗_mono (≼_refl ε) (recip_beyond R (magnitude_above A.lo e.0) (magnitude_beyond d.least)))
          (⊗_mono
          (whole_mono _ _ (omega (arith, octaves_bounded s.bounded.least d.least e.0, octaves_bounded s.bounded.most d.most e.1)))
          (≼_refl (power ninth n))))
          (record { up = ln_spread_signed A.lo A.hi ε e.0 e.1 v s.apart.below.up n });
    })
    (λ e. e (beyond_positive d.least, beyond_positive d.most))

pub ln_narrow_of : (M R : ℕ) (ε : Ratio) (x : Option Bracket) → Meets x x → All (Slim M ε) x → All (Divisor R) x → (n : ℕ)
    → All (Narrow (ε ⊗ whole R ⊕ whole (2 * suc (M + R)) ⊗ power ninth n)) (x >> ln_b n)
unfolding ◌>>◌
ln_narrow_of M R ε none v s d n = s
ln_narrow_of M R ε (some A) v s d n = ln_narrow v s d n

-- e^: from u (1 - δ) ≤ l (1 + h)², for ends within U

one_less : (δ : Ratio) → whole 1 ⊖ δ ≼ whole 1
unfolding whole ◌⊖◌
one_less δ = omega arith

one_less_apart : (δ : Ratio) → Apart (of_ratio (whole 1)) (of_ratio (whole 1 ⊖ δ)) δ
one_less_apart δ =
    record {
      above = record { up = sum_signed _ _ _ (≼_trans (difference δ (whole 1)) (to≼ (⊕-comm δ _))) };
      below = record { up = sum_signed _ _ _ (≼_trans (one_less δ) (⊕-upper _ _)) };
    }

module _ (h : Ratio) (small : h ≼ whole 1) where
  squared_most : (whole 1 ⊕ h) ⊗ (whole 1 ⊕ h) ≼ whole 1 ⊕ whole 3 ⊗ h
  unfolding whole ◌⊕◌ ◌⊗◌
  squared_most = omega (arith, mul-le-mul_right (h.num * h.den) small.cross)

  squared_least : whole 1 ≼ (whole 1 ⊕ h) ⊗ (whole 1 ⊕ h)
  unfolding whole ◌⊕◌ ◌⊗◌
  squared_least = omega arith

  squared_apart : Apart (of_ratio ((whole 1 ⊕ h) ⊗ (whole 1 ⊕ h))) (of_ratio (whole 1)) (whole 3 ⊗ h)
  squared_apart =
      record {
        above = record { up = sum_signed _ _ _ squared_most };
        below = record { up = sum_signed _ _ _ (≼_trans squared_least (⊕-upper _ _)) };
      }

times_one : (x : Frac) → x ⊑ x ⊠ of_ratio (whole 1)
unfolding of_ratio whole ◌⊠◌
times_one x = omega arith

one_times : (x : Frac) → x ⊠ of_ratio (whole 1) ⊑ x
unfolding of_ratio whole ◌⊠◌
one_times x = omega arith

exp_ends_narrow : (a b : Option Frac) (U : ℕ) (δ h : Ratio) → h ≼ whole 1 → All (BoundedEnds U) (ends a b)
    → Near b a (whole 1 ⊖ δ) ((whole 1 ⊕ h) ⊗ (whole 1 ⊕ h)) → All (Narrow (whole U ⊗ (whole 3 ⊗ h) ⊕ whole U ⊗ δ)) (ends a b)
unfolding lift ◌>>◌
exp_ends_narrow none b U δ h l e n = e
exp_ends_narrow (some a) none U δ h l e n = e
exp_ends_narrow (some a) (some b) U δ h l e n =
    record {
      width =
          chained
          (record { up = ⊑_trans (times_one b) (upto_times e.most (one_less_apart δ)).up })
          (record { up = ⊑_trans n (⊑_trans (upto_times e.least (squared_apart h l)).up (⊞-mono (one_times a) (⊑_refl _))) });
    }

pub exp_narrow_of : (C U K n : ℕ) (δ : Ratio) (x : Option Bracket) → suc (2 * C + K) ≤ n → Meets x x → All (Slim C δ) x → All (BoundedEnds U) (x >> exp_b n)
    → All (Narrow (whole U ⊗ (whole 3 ⊗ power half K) ⊕ whole U ⊗ δ)) (x >> exp_b n)
unfolding ◌>>◌ exp_b
exp_narrow_of C U K n δ none late v s e = s
exp_narrow_of C U K n δ (some A) late v s e =
    exp_ends_narrow (exp_lower_at A.lo n) (exp_upper_at A.hi n) U δ (power half K) (half_below_one K) e
    (exp_spread_signed A.lo A.hi δ v s.apart.below.up C K n (≼_trans (magnitude_mono s.bounded.least.least) (signed_most (whole C)))
    (magnitude_bounded s.bounded.most) late)
