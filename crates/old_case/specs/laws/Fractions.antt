-- A case with its fields in their values: each number is one that its scale may have, and its old case passes test 16. Assumes nothing.
use Rattle.std.specs.Prelude.{ℕ, ◌*◌, ◌≤◌, ◌<◌, ◌≡◌, false}
use Rattle.std.proofs.Common.{arith, lit<, lit≤}
use Rattle.guidance.specs.declared.Case.{Case}
use Rattle.guidance.specs.Cases.{Fields}
use Rattle.refusals.proofs.laws.Order.{none_applies}
use Rattle.doubles.specs.RoundTrip.{Fraction}
use Rattle.doubles.specs.laws.Trip.{back_usable}
use Rattle.old_case.specs.Cases.{unusable_in, old_case_of}

pub record Fractions (c : Case) : Type 0 where
  pub mass : Fraction 1000 c.mass
  pub mean : Fraction 10 c.mean
  pub stoichiometric : Fraction 10 c.stoichiometric
  pub heat : Fraction 1000 c.heat
  pub distance : Fraction 100 c.distance
  pub body : Fraction 1 c.body

fraction : (s n m : ℕ) → 0 < s → s ≤ 1000 → m ≤ 1000000 * s → n ≤ m → Fraction s n
fraction s n m a b h l = record { scale = a; most = b; number = omega arith }

pub fractions : (c : Case) → Fields c → Fractions c
fractions c f =
    record {
      mass = fraction 1000 c.mass 1000000000 (lit< tt) (lit≤ tt) (lit≤ tt) f.mass_most;
      mean = fraction 10 c.mean 50000 (lit< tt) (lit≤ tt) (lit≤ tt) f.mean_most;
      stoichiometric = fraction 10 c.stoichiometric 50000 (lit< tt) (lit≤ tt) (lit≤ tt) f.stoichiometric_most;
      heat = fraction 1000 c.heat 150000 (lit< tt) (lit≤ tt) (lit≤ tt) f.heat_most;
      distance = fraction 100 c.distance 1000000 (lit< tt) (lit≤ tt) (lit≤ tt) f.distance_most;
      body = fraction 1 c.body 500 (lit< tt) (lit≤ tt) (lit≤ tt) f.body_most;
    }

pub all_usable : (c : Case) → Fields c → unusable_in (old_case_of c) ≡ false
unfolding unusable_in old_case_of
all_usable c f =
    let k = fractions c f in
    none_applies (back_usable 1000 c.mass k.mass) (back_usable 10 c.mean k.mean) (back_usable 10 c.stoichiometric k.stoichiometric)
    (back_usable 1000 c.heat k.heat) (back_usable 100 c.distance k.distance) (back_usable 1 c.body k.body)
