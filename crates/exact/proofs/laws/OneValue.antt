-- The exact value is one number: it lies in every interval that holds it, and any two of them meet, since the brackets close. Assumes nothing.
use Rattle.std.specs.Prelude.{ℕ, suc, ◌+◌, ◌*◌, ◌≤◌}
use Rattle.std.proofs.Common.{mul-le-mul_right, arith}
use Rattle.std.proofs.Math.Decide.{dec_le}
use Rattle.exact.specs.Fraction.{whole, Frac, ◌⊑◌, one_f, of_ratio, neg, ◌⊞◌, ◌⊟◌, ◌⊠◌}
use Rattle.exact.specs.Bracket.{Bracket, Meet}
use Rattle.exact.specs.Formula.{Formula}
use Rattle.exact.specs.Exact.{HasBracket, Closes}
use Rattle.exact.proofs.laws.Closing.{closing}
use Rattle.exact.proofs.laws.Frac.{⊑_refl, ⊑_trans, ⊟-mono, scale_mono}
use Rattle.exact.proofs.laws.Points.{point, signed_above}
use Rattle.exact.specs.Holding.{Holds}

-- k (x - y) ≤ 1 for every k gives x ≤ y

at_most : (P Q D : ℕ) → suc D * P ≤ suc D * Q + D → P ≤ Q
at_most P Q D h = go (dec_le P Q)
  where
    go : Dec (P ≤ Q) → P ≤ Q
    go (yes l) = l
    go (no l) = let m : suc Q ≤ P = omega arith in absurd (omega (arith, h, mul-le-mul_right (suc D) m))

archimedes : (x y : Frac) → ((k : ℕ) → of_ratio (whole k) ⊠ (x ⊟ y) ⊑ one_f) → x ⊑ y
unfolding whole of_ratio one_f neg ◌⊞◌ ◌⊟◌ ◌⊠◌
archimedes x y h =
    let D : ℕ = x.den * y.den in
    record { cross = at_most _ _ D (omega (arith, (h (suc D)).cross)) }

-- where an interval holds the value, the brackets close
pub holds_closes : {I : Bracket} {x : Formula} → Holds I x → Closes x
holds_closes h = closing h.there

-- the number lies in I: for every k some bracket reaches past neither end of I by more than 1/k
pub value_between : {I : Bracket} {x : Formula} → Holds I x → (k : ℕ)
    → (there : HasBracket x) × (of_ratio (whole k) ⊠ (I.lo ⊟ there.bracket.lo) ⊑ one_f) × (of_ratio (whole k) ⊠ (there.bracket.hi ⊟ I.hi) ⊑ one_f)
value_between h k =
    let n = (holds_closes h).narrow 0 k in
    let b = n.0 in
    let m = h.meets b.place b.from_one b.bracket b.is in (
      b,
      ⊑_trans (scale_mono (signed_above (whole k)) (⊟-mono m.first (⊑_refl b.bracket.lo))) n.2,
      ⊑_trans (scale_mono (signed_above (whole k)) (⊟-mono (⊑_refl b.bracket.hi) m.second)) n.2,
    )

-- THE EXACT VALUE IS ONE NUMBER
pub one_value : {x : Formula} {I J : Bracket} → Holds I x → Holds J x → Meet I J
one_value {x} h k = record { first = below h k; second = below k h }
  where
    below : {I J : Bracket} → Holds I x → Holds J x → I.lo ⊑ J.hi
    below {I} {J} h k =
        archimedes I.lo J.hi
        λ j.
        let n = (holds_closes h).narrow 0 j in
        let b = n.0 in
        ⊑_trans
        (scale_mono (signed_above (whole j)) (⊟-mono (h.meets b.place b.from_one b.bracket b.is).first (k.meets b.place b.from_one b.bracket b.is).second))
        n.2

-- where the value is a fraction, no other fraction is it
pub one_fraction : {x : Formula} {p q : Frac} → Holds (point p) x → Holds (point q) x → (p ⊑ q) × (q ⊑ p)
one_fraction h k = let m = one_value h k in (m.first, m.second)
