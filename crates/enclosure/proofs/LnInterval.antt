-- ln of a span, from ln at its upper end: the lower end lies below by at most (hi - lo)/lo and the remainders. Assumes nothing.
use mathlib.Core.Path.{◌≡◌, refl, ap, sym, ◌∙◌}
use Prim.Native.Nat.{ℕ, suc, ◌+◌, ◌-◌, ◌*◌, ◌^◌, ◌≤◌, ◌<◌}
use native.Mathlib.Nat.{le_trans, le_of_eq, mul-pos, mul-le-mul, mul-le-mul_right, mul-le-mul_left, le_of_mul-le-mul_right}
use native.Mathlib.Decide.{dec_le}
use native.Mathlib.Omega.{arith}
use lib.Dec.{lit≤}
use lib.IntN.{ℤ, pos, negsuc}
use lib.Signed.{mag}
use lib.Pow.{pow_pos, pow_mono}
use Rattle.exact.specs.Fraction.{Ratio, Above0, whole, ◌⊗◌, recip, power, Frac, ◌⊑◌, Positive, ◌⊞◌, of_ratio, magnitude}
use Rattle.exact.proofs.laws.Ratio.{⊗_mono}
use Rattle.exact.specs.Series.{one_over}
use Rattle.exact.proofs.laws.Ln.{whole_mono}
use Rattle.exact.proofs.laws.Width.{ninth}
use Rattle.exact.specs.laws.Fixed.{Upper}
use Rattle.exact.proofs.laws.Fixed.{upper_sum}
use Rattle.exact.proofs.laws.Frac.{⊑_refl, ⊑_trans}
use Rattle.exact.specs.laws.Divisors.{magnitude_above}
use Rattle.exact.specs.LnExp.{ln_lower_at}
use Rattle.exact.proofs.laws.EndsMeet.{ln_below}
use Rattle.exact.proofs.laws.Containment.{ln_lower_end, ln_upper_end}
use Rattle.exact.proofs.laws.Spread.{octaves, octaves_most, spread, ln_spread_signed}
use Rattle.exact.specs.Holding.{◌∈◌}
use Rattle.span.specs.declared.Span.{Span}
use Rattle.span.specs.Spans.{unit, unit_positive, units, hull, Rel}
use Rattle.span.specs.Unary.{LnWithin}
use Rattle.fixed.specs.declared.Log.{Log}
use Rattle.fixed.specs.Logs.{up, dn, fixed, fixed_z, bracket}
use Rattle.enclosure.specs.Promises.{Loggable, Logarithm}
use Rattle.enclosure.specs.LogSteps.{ratio, biased, biased_pair, LnPoint, Slack, Unbiased}
use Rattle.fixed.specs.SignedLaws.{least}
use Rattle.signed.proofs.Magnitude.{size}
use Rattle.enclosure.proofs.OddSeries.{upper_to, ninth_from}
use Rattle.span.specs.Powers.{powers}

-- w ≤ D + 2 for a width D: else (D + 2) lo ≤ D hi, and hi would be 2 lo
slack_width : (lo hi w D : ℕ) → 2 ^ 29 ≤ lo → hi ≤ 2 ^ 31 → lo ≤ hi → Slack lo hi w → Rel lo hi D → D ≤ 2 ^ 15 → w ≤ D + 2
slack_width lo hi w D l h o s d m = go (dec_le w (D + 2))
  where
    never : D + 3 ≤ w → ⊥
    never q =
        let a : (D + 3) * lo ≤ w * lo = mul-le-mul_right lo q in
        let b : (D + 2) * lo ≤ D * hi = omega (arith, s.near, d.narrow) in
        let c : D * D ≤ 2 ^ 30 = mul-le-mul m m in
        let e : D * D * hi ≤ 2 ^ 30 * hi = mul-le-mul_right hi c in
        omega (arith, b, e, mul-le-mul_left D d.narrow, mul-le-mul_right hi m)

    go : Dec (w ≤ D + 2) → w ≤ D + 2
    go (yes q) = q
    go (no q) = absurd (never (omega arith))

-- The remainders

remainders_at : Upper (2 ^ 30) 1 (whole 2050 ⊗ power ninth 20)
unfolding power ninth one_over whole ◌⊗◌
remainders_at = record { bound = lit≤ tt }

remainders : (c n : ℕ) → c ≤ 2050 → 20 ≤ n → Upper (2 ^ 30) 1 (whole c ⊗ power ninth n)
remainders c n h k = upper_to (⊗_mono (whole_mono c 2050 h) (ninth_from 20 n k)) remainders_at

-- v units are at most 1024 octaves from 1

high : (v : ℕ) → v ≤ unit * unit → (magnitude (units v)).num ≤ unit * (magnitude (units v)).den
unfolding magnitude units
high v h = let s : v - 0 ≡ v = omega arith in rw s h

low : (v : ℕ) → 0 < v → (magnitude (units v)).den ≤ unit * (magnitude (units v)).num
unfolding magnitude units
low v h =
    let s : v - 0 ≡ v = omega arith in
    let l : unit * 1 ≤ unit * v = mul-le-mul_left unit h in
    let m : unit ≤ unit * v = omega (arith, l) in
    rw s m

few : (v : ℕ) (z : Positive (units v)) → 0 < v → v ≤ unit * unit → octaves (units v) z ≤ 1024
unfolding unit
few v z h g = octaves_most (units v) z 1024 (high v g) (low v h)

bounded : (m e : ℕ) → m ≤ 2 ^ 31 → e ≤ 2017 → m * 2 ^ e ≤ unit * unit
unfolding unit
bounded m e h k = le_trans (mul-le-mul h (pow_mono k)) (le_of_eq (powers 31 2017 2048 refl ∙ sym (powers 1024 1024 2048 refl)))

-- From i to j = i + g units

moves : (i j g : ℕ) → i + g ≡ j → units j ⊑ units i ⊞ of_ratio (ratio g unit unit_positive)
unfolding units of_ratio ratio ◌⊞◌
moves i j g e = record { cross = omega (arith, ap (λ (x : ℕ). x * (unit * unit)) e) }

units_mono : (i j : ℕ) → i ≤ j → units i ⊑ units j
unfolding units
units_mono i j h = record { cross = omega (arith, mul-le-mul_right unit h) }

positive : (i : ℕ) → 0 < i → Positive (units i)
unfolding units
positive i h = record { above = h }

steep : (i g w : ℕ) (p : Above0 (magnitude (units i))) → g * 2 ^ 30 ≤ w * i → Upper (2 ^ 30) w (ratio g unit unit_positive ⊗ recip (magnitude (units i)) p)
unfolding ratio recip magnitude units ◌⊗◌
steep i g w p h =
    let s : i - 0 ≡ i = omega arith in
    record { bound = rw s (omega (arith, mul-le-mul_right unit h)) }

-- take the slack from h
taken : (h l w : ℕ) (x : Frac) (Z : Ratio) → l + (w + 1) ≡ h → Upper (2 ^ 30) (w + 1) Z → biased h ⊑ x ⊞ of_ratio Z → biased l ⊑ x
unfolding biased fixed of_ratio ◌⊞◌
taken h l w x Z e u k =
    record {
      cross =
          le_of_mul-le-mul_right {k = Z.den}
          (omega (arith, k.cross, mul-le-mul_right x.den u.bound, ap (λ (i : ℕ). i * (x.den * Z.den)) e))
          Z.positive;
    }

module _ (i j g w h l : ℕ) (some : 0 < i) (e : i + g ≡ j) (most : j ≤ unit * unit) (s : g * 2 ^ 30 ≤ w * i) (q : l + (w + 1) ≡ h)
    (ends : (z : Positive (units j)) (n : ℕ) → 20 ≤ n → LnWithin (units j) z n (biased_pair h (h + 8))) where
  at_low : (z : Positive (units i)) (n : ℕ) → 20 ≤ n → biased l ⊑ ln_lower_at (units i) z n
  unfolding biased_pair spread
  at_low z n b =
      let y : Positive (units j) = positive j (omega arith) in
      let c : suc (octaves (units i) z) + suc (octaves (units j) y) ≤ 2050
      = omega (arith, few i z some (omega (arith, most)), few j y (omega arith) most) in
      taken h l w (ln_lower_at (units i) z n) _ q (upper_sum (steep i g w (magnitude_above (units i) z) s) (remainders _ n c b))
      (⊑_trans (ends y n b).above
      (⊑_trans (ln_below (units j) (units j) y y (⊑_refl (units j)) n n)
      (ln_spread_signed (units i) (units j) (ratio g unit unit_positive) z y (units_mono i j (omega arith)) (moves i j g e) n)))

  pub over_points : (p : Frac) → p ∈ record { lo = units i; hi = units j } → (z : Positive p) (n : ℕ) → 20 ≤ n → LnWithin p z n (biased_pair l (h + 8))
  unfolding biased_pair
  over_points p m z n b =
      let x : Positive (units i) = positive i some in
      let y : Positive (units j) = positive j (omega arith) in
      record {
        above = ⊑_trans (at_low x n b) (ln_lower_end (units i) p x z m.above n);
        below = ⊑_trans (ln_upper_end p (units j) z y m.below n) (ends y n b).below;
      }

-- From a word with 2^40 added to a signed one

module _ {x : ℕ} (z : ℤ) (u : Unbiased x z) where
  signed_least : biased x ⊑ fixed_z z
  unfolding biased fixed
  signed_least = record { cross = omega (arith, u.parts) }

  signed_most : fixed_z z ⊑ biased x
  unfolding biased fixed
  signed_most = record { cross = omega (arith, u.parts) }

up_most : (z : ℤ) {x b : ℕ} → Unbiased x z → x ≤ 2 ^ 40 + b → up z ≤ b
up_most (pos n) u h = omega (arith, u.parts)
up_most (negsuc n) u h = omega arith

dn_most : (z : ℤ) {x b : ℕ} → Unbiased x z → 2 ^ 40 ≤ x + b → dn z ≤ b
dn_most (pos n) u h = omega arith
dn_most (negsuc n) u h = omega (arith, u.parts)

pub unbiased_fits : (z : ℤ) {x : ℕ} → Unbiased x z → x < 2 ^ 41 → mag z < 2 ^ 63
unbiased_fits z {x} u h = let p = least z {a = x} {b = 2 ^ 40} u.parts in size z (omega (arith, p.0)) (omega (arith, p.1))

-- the words that are unbiased
pub word_fits : (t : Span) (h w : ℕ) → Loggable t → LnPoint t.hi t.e h → Slack t.lo t.hi w → (w + 1 ≤ h) × (h + 8 < 2 ^ 41)
word_fits t h w a d s = (omega (arith, d.least 993 (omega arith), s.small), omega (arith, d.most 1023 a.most))

pub logarithm : (t : Span) (h w l u : ℕ) (r : Log) → Loggable t → LnPoint t.hi t.e h → Slack t.lo t.hi w
    → l + (w + 1) ≡ h → u ≡ h + 8 → Unbiased l r.lo → Unbiased u r.hi → Logarithm t r
unfolding hull biased_pair bracket
logarithm t h w l u r a d s q j lo hi =
    let K = 2 ^ t.e in
    let o : t.lo ≤ t.hi = a.normal.ordered in
    let f : t.lo + (t.hi - t.lo) ≡ t.hi = omega (arith, o) in
    let some : 0 < t.lo * K = mul-pos {m = t.lo} (omega (arith, a.far)) (pow_pos t.e) in
    let words =
    over_points (t.lo * K) (t.hi * K) ((t.hi - t.lo) * K) w h l some
    (omega (arith, ap (λ (x : ℕ). x * K) f)) (bounded t.hi t.e a.normal.most a.most)
    (omega (arith, mul-le-mul_right K s.covers)) q d.ends in
    record {
      positive = positive (t.lo * K) some;
      holds = λ p m z n e.
          let k = words p m z n (omega arith) in
          record { above = ⊑_trans (signed_most r.lo lo) k.above; below = ⊑_trans k.below (signed_least r.hi (rw j at hi)) };
      ordered = record { ordered = omega (arith, q, lo.parts, hi.parts) };
      width = λ D x y. record { narrow = omega (arith, q, lo.parts, hi.parts, slack_width t.lo t.hi w D a.far a.normal.most o s x y) };
      least = λ D x y k z. dn_most r.lo lo (omega (arith, q, d.least k z, slack_width t.lo t.hi w D a.far a.normal.most o s x y));
      most = λ k z. up_most r.hi hi (omega (arith, d.most k z));
    }
