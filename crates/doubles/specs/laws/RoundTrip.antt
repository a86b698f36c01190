-- The promises of the round trip hold. Assumes nothing.
use Rattle.std.specs.Prelude.{◌≡◌, refl, true, false, ℕ, T, Float}
use Rattle.std.proofs.Common.{sym, ap, ◌∙◌, subst, true≢false}
use Rattle.std.specs.Float.{nan, inf, fin, binary64}
use Rattle.std.specs.Float.Ieee.{fits}
use Rattle.std.specs.Float.Ieee.Exact.{HasValue}
use Rattle.doubles.specs.Doubles.{rounded, nearest, minus_zero}
use Rattle.doubles.specs.RoundTrip.{Fraction, Exactly, RoundTrip}
use Rattle.doubles.specs.laws.Bits.{value}
use Rattle.doubles.specs.laws.Trip as Trip
use Rattle.doubles.specs.laws.Trip.{back_in, back_usable}
use Rattle.doubles.specs.laws.Nearest.{is_nearest, only_nearest}

-- what the way back gives has no minus sign
no_minus : (x : Float) (a c : ℕ) → HasValue x false a c → minus_zero x ≡ false
unfolding minus_zero
no_minus nan a c h = absurd h
no_minus (inf t) a c h = absurd h
no_minus (fin true m e) a c h = absurd (true≢false h.0)
no_minus (fin false m e) a c h = refl

-- what the way back gives is such a nearest one
pub exactly : (s n : ℕ) → Fraction s n → Exactly s (nearest s n)
exactly s n f = record { number = n; fraction = f; nearest = is_nearest s n f; no_minus = no_minus (nearest s n) _ _ (Trip.value s n f) }

module _ (s : ℕ) (x : Float) (F : T (fits binary64 x)) where
  pub kept : Exactly s x → nearest s (rounded s x) ≡ x
  kept h =
      let n = h.number in
      let e : x ≡ nearest s n = only_nearest s n h.fraction x F h.no_minus h.nearest in
      ap (λ (y : Float). nearest s (rounded s y)) e ∙ ap (λ (k : ℕ). nearest s k) (back_in s n h.fraction) ∙ sym e

pub round_trip : RoundTrip
round_trip =
    record {
      over_bits = value;
      nearest_is = is_nearest;
      back_usable = back_usable;
      only_nearest = λ s n x f F z h. only_nearest s n f x F z h;
      back_in = back_in;
      comes_back = λ s x F f. (λ e. subst (λ (y : Float). Exactly s y) e (exactly s (rounded s x) f), kept s x F);
    }
