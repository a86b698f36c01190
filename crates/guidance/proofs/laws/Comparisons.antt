-- The comparisons of Rx: document 01's own quotient r³P0/E, and the words that decide them. Assumes nothing.
use Rattle.std.specs.Prelude.{ℕ, ◌*◌, ◌≤◌, ◌<◌, ◌≡◌, Bool, cond, eqb, ltb}
use Rattle.std.proofs.Common.{◌∙◌}
use Rattle.std.proofs.Math.Bool.{true, false}
use native.Mathlib.Omega.{arith}
use Rattle.exact.specs.Fraction.{Ratio, ◌≼◌, ◌≈◌, Above0, whole, ◌⊗◌, recip, power}
use Rattle.exact.proofs.laws.Equal.{≈-refl, ⊗_cong}
use Rattle.exact.proofs.laws.Quotient.{quotient_least, quotient_most}
use Rattle.guidance.specs.declared.Case.{Case}
use Rattle.guidance.specs.declared.Cloud.{Cloud}
use Rattle.guidance.specs.Clouds.{over, energy}
use Rattle.guidance.specs.Distances.{less, metres, cubed, nearer, farther, cube02, cube025}
use Rattle.guidance.specs.Waves.{near_field}
use Rattle.guidance.specs.CloudWords.{CloudOf, reduction, weight_of, scaled_by, millionths}
use Rattle.guidance.proofs.laws.Order.{less_same, less_value, less_words}

-- As quotients

least_quotient : (t x e : Ratio) (h : Above0 e) → t ≼ x ⊗ recip e h → t ⊗ e ≼ x
unfolding ◌⊗◌ recip
least_quotient t x e h l = omega arith

most_quotient : (t x e : Ratio) (h : Above0 e) → x ⊗ recip e h ≼ t → x ≼ t ⊗ e
unfolding ◌⊗◌ recip
most_quotient t x e h l = omega arith

-- r³P0/E < t
pub nearer_quotient : (t : Ratio) (air : ℕ) (c : Case) (h : Above0 (energy c)) → nearer t air c ≡ less (cubed air c ⊗ recip (energy c) h) t
unfolding nearer
nearer_quotient t air c h = less_same _ _ _ _ (quotient_least t (cubed air c) (energy c) h) (least_quotient t (cubed air c) (energy c) h)

-- t < r³P0/E
pub farther_quotient : (t : Ratio) (air : ℕ) (c : Case) (h : Above0 (energy c)) → farther t air c ≡ less t (cubed air c ⊗ recip (energy c) h)
unfolding farther
farther_quotient t air c h = less_same _ _ _ _ (quotient_most t (cubed air c) (energy c) h) (most_quotient t (cubed air c) (energy c) h)

-- By the value of the threshold

pub nearer_value : (t u : Ratio) (air : ℕ) (c : Case) → t ≈ u → nearer t air c ≡ nearer u air c
unfolding nearer
nearer_value t u air c e = less_value _ _ _ _ (≈-refl (cubed air c)) (⊗_cong e (≈-refl (energy c)))

pub farther_value : (t u : Ratio) (air : ℕ) (c : Case) → t ≈ u → farther t air c ≡ farther u air c
unfolding farther
farther_value t u air c e = less_value _ _ _ _ (⊗_cong e (≈-refl (energy c))) (≈-refl (cubed air c))

-- a heterogeneous cloud at 0.25, a gas at 0.2
pub near_field_is : (t u air : ℕ) (c : Case) → millionths t ≈ cube025 → millionths u ≈ cube02
    → nearer (millionths (cond (eqb c.state 1) t u)) air c ≡ near_field air c
unfolding near_field
near_field_is t u air c e f = go (eqb c.state 1)
  where
    go : (b : Bool) → nearer (millionths (cond b t u)) air c ≡ cond b (nearer cube025 air c) (nearer cube02 air c)
    go true = nearer_value _ cube025 air c e
    go false = nearer_value _ cube02 air c f

-- On words: r³P0/E against t millionths, as cm³·P0·parts·(4 or 1) against joules·t·(3 or 1)

module _ (t j p d air : ℕ) (z : 0 < p) (y : 0 < 100) where
  abbrev energy_words : Bool → Ratio
  energy_words b = over j p z ⊗ reduction b

  abbrev cubed_words : Ratio
  cubed_words = power (over d 100 y) 3 ⊗ whole air

  words_low : (b : Bool) → millionths t ⊗ energy_words b ≼ cubed_words → j * (t * cond b 3 1) ≤ d * d * d * (air * p * cond b 4 1)
  unfolding ◌⊗◌ power whole
  words_low true h = omega arith
  words_low false h = omega arith

  low_words : (b : Bool) → j * (t * cond b 3 1) ≤ d * d * d * (air * p * cond b 4 1) → millionths t ⊗ energy_words b ≼ cubed_words
  unfolding ◌⊗◌ power whole
  low_words true h = omega arith
  low_words false h = omega arith

  words_high : (b : Bool) → cubed_words ≼ millionths t ⊗ energy_words b → d * d * d * (air * p * cond b 4 1) ≤ j * (t * cond b 3 1)
  unfolding ◌⊗◌ power whole
  words_high true h = omega arith
  words_high false h = omega arith

  high_words : (b : Bool) → d * d * d * (air * p * cond b 4 1) ≤ j * (t * cond b 3 1) → cubed_words ≼ millionths t ⊗ energy_words b
  unfolding ◌⊗◌ power whole
  high_words true h = omega arith
  high_words false h = omega arith

module _ (c : Case) (k : Cloud) (e : CloudOf c k) (t air : ℕ) where
  times : millionths t ⊗ energy c ≈ millionths t ⊗ (over k.joules k.parts e.parts ⊗ reduction k.aerosol)
  times = ⊗_cong (≈-refl (millionths t)) e.energy

  abbrev words : Ratio
  words = millionths t ⊗ (over k.joules k.parts e.parts ⊗ reduction k.aerosol)

  pub nearer_words : nearer (millionths t) air c ≡ ltb (c.distance * c.distance * c.distance * weight_of k air) (k.joules * scaled_by k t)
  unfolding nearer cubed metres weight_of scaled_by
  nearer_words =
      less_value _ _ _ _ (≈-refl (cubed air c)) times
      ∙ less_words (cubed air c) words _ _
      (words_low t k.joules k.parts c.distance air e.parts (metres c).positive k.aerosol)
      (low_words t k.joules k.parts c.distance air e.parts (metres c).positive k.aerosol)

  pub farther_words : farther (millionths t) air c ≡ ltb (k.joules * scaled_by k t) (c.distance * c.distance * c.distance * weight_of k air)
  unfolding farther cubed metres weight_of scaled_by
  farther_words =
      less_value _ _ _ _ times (≈-refl (cubed air c))
      ∙ less_words words (cubed air c) _ _
      (words_high t k.joules k.parts c.distance air e.parts (metres c).positive k.aerosol)
      (high_words t k.joules k.parts c.distance air e.parts (metres c).positive k.aerosol)
