-- A case to doubles and back, and doubles to a case and back. Assumes nothing.
use Rattle.std.specs.Prelude.{ℕ, zero, suc, ◌<◌, ◌≡◌, refl, Bool, true, ◌&&◌, T}
use Rattle.std.proofs.Math.Path.{sym, ap}
use Rattle.std.proofs.Common.{◌∙◌, arith, ne_eqb}
use Rattle.std.proofs.Math.Bool.{false}
use Rattle.std.proofs.Math.Dec.{eqb}
use Rattle.std.specs.Float.Ieee.{binary64, fits, lt, of_int, round}
use Rattle.std.specs.Float.Ieee.Fits.{round-fits}
use Rattle.guidance.specs.declared.Case.{Case}
use Rattle.guidance.specs.AirPressure.{standard}
use Rattle.guidance.specs.Cases.{Fields}
use Rattle.doubles.specs.Doubles.{whole, nearest}
use Rattle.doubles.specs.laws.Trip.{back_in}
use Rattle.doubles.specs.laws.RoundTrip.{exactly, kept}
use Rattle.old_case.specs.declared.OldCase.{OldCase}
use Rattle.old_case.specs.Cases.{case_of, lost_heat, old_case_of}
use Rattle.old_case.specs.Exactly.{AllExactly}
use Rattle.old_case.specs.laws.Fractions.{Fractions, fractions}

-- what comes in is in the standard air
pub in_standard : (o : OldCase) → (case_of o).air ≡ standard
unfolding case_of
in_standard o = refl

-- a heat of 0 is no heat above zero
no_heat : (n : ℕ) → (lt (whole 0) (nearest 1000 n) && eqb n 0) ≡ false
unfolding lt of_int round
no_heat zero = refl
no_heat (suc n) = simp (ne_eqb (suc n) 0 (λ e. omega arith)) (unused (lt (whole 0) (nearest 1000 (suc n))))
  where
    unused : (b : Bool) → (b && false) ≡ false
    unused true = refl
    unused false = refl

-- each setting is a byte, and each double is one
pub record Fitting (o : OldCase) : Type 0 where
  pub substance : o.substance < 256
  pub state : o.state < 256
  pub placement : o.placement < 256
  pub surroundings : o.surroundings < 256
  pub mass : T (fits binary64 o.mass)
  pub mean : T (fits binary64 o.mean)
  pub stoichiometric : T (fits binary64 o.stoichiometric)
  pub heat : T (fits binary64 o.heat)
  pub distance : T (fits binary64 o.distance)
  pub body : T (fits binary64 o.body)

module _ (c : Case) (f : Fields c) where
  k : Fractions c
  k = fractions c f

  pub fitting : Fitting (old_case_of c)
  unfolding old_case_of
  fitting =
      record {
        substance = omega (arith, f.substance);
        state = omega (arith, f.state);
        placement = omega (arith, f.placement);
        surroundings = omega (arith, f.surroundings_most);
        mass = round-fits binary64 false c.mass 1000;
        mean = round-fits binary64 false c.mean 10;
        stoichiometric = round-fits binary64 false c.stoichiometric 10;
        heat = round-fits binary64 false c.heat 1000;
        distance = round-fits binary64 false c.distance 100;
        body = round-fits binary64 false c.body 1;
      }

  -- a case in the standard air
  pub case_again : c.air ≡ standard → case_of (old_case_of c) ≡ c
  unfolding case_of old_case_of
  case_again e =
      λ i. record {
        substance = c.substance;
        state = c.state;
        placement = c.placement;
        surroundings = c.surroundings;
        mass = back_in 1000 c.mass k.mass i;
        mean = back_in 10 c.mean k.mean i;
        stoichiometric = back_in 10 c.stoichiometric k.stoichiometric i;
        heat = back_in 1000 c.heat k.heat i;
        distance = back_in 100 c.distance k.distance i;
        body = back_in 1 c.body k.body i;
        air = sym e i;
      }

  pub heat_kept : lost_heat (old_case_of c) ≡ false
  unfolding lost_heat old_case_of
  heat_kept = ap (λ (n : ℕ). lt (whole 0) (nearest 1000 c.heat) && eqb n 0) (back_in 1000 c.heat k.heat) ∙ no_heat c.heat

  pub all_exactly : AllExactly (old_case_of c)
  unfolding old_case_of
  all_exactly =
      record {
        mass = exactly 1000 c.mass k.mass;
        mean = exactly 10 c.mean k.mean;
        stoichiometric = exactly 10 c.stoichiometric k.stoichiometric;
        heat = exactly 1000 c.heat k.heat;
        distance = exactly 100 c.distance k.distance;
        body = exactly 1 c.body k.body;
      }

-- doubles that are such nearest ones
pub old_kept : (o : OldCase) → Fitting o → AllExactly o → old_case_of (case_of o) ≡ o
unfolding old_case_of case_of
old_kept o f e =
    λ k. record {
      substance = o.substance;
      state = o.state;
      placement = o.placement;
      surroundings = o.surroundings;
      mass = kept 1000 o.mass f.mass e.mass k;
      mean = kept 10 o.mean f.mean e.mean k;
      stoichiometric = kept 10 o.stoichiometric f.stoichiometric e.stoichiometric k;
      heat = kept 1000 o.heat f.heat e.heat k;
      distance = kept 100 o.distance f.distance e.distance k;
      body = kept 1 o.body f.body e.body k;
    }
