-- A case passes tests 3 to 6 just where its fields are in their values and it has a heat. Assumes nothing.
use Rattle.std.specs.Prelude.{ℕ, zero, suc, ◌*◌, ◌≡◌, refl, false, ◌&&◌, eqb}
use Rattle.std.proofs.Common.{sym, ◌∙◌, arith}
use Rattle.std.proofs.Math.Option.{none}
use borrow.Author.Tests.{ne_eqb, eqb-false}
use Rattle.guidance.specs.declared.Case.{Case}
use Rattle.guidance.specs.Substances.{beta_of, heat_of}
use Rattle.guidance.specs.Cases.{Fields}
use Rattle.guidance.specs.CloudWords.{Heated}
use Rattle.refusals.specs.Order.{first_of}
use Rattle.refusals.proofs.laws.Order.{neither, none_of, none_applies, Passed, none_found}
use Rattle.limits.specs.laws.Limits.{inside, not_outside}
use Rattle.limits.specs.Tests.{outside, quantity_outside, heat_missing, value_tests, field_tests}

-- no heat is a heat of 0
no_product : (n : ℕ) → eqb n 0 ≡ eqb (440 * n) 0
no_product zero = refl
no_product (suc n) = ne_eqb (suc n) 0 (λ e. omega arith) ∙ sym (ne_eqb (440 * suc n) 0 (λ e. omega arith))

no_heat : (substance given : ℕ) → (eqb given 0 && eqb (beta_of substance) 0) ≡ eqb (heat_of substance given) 0
unfolding heat_of
no_heat substance zero = no_product (beta_of substance)
no_heat substance (suc given) = simp (ne_eqb (suc given) 0 (λ e. omega arith))

pub heat_missing_lem : (c : Case) → heat_missing c ≡ eqb (heat_of c.substance c.heat) 0
unfolding heat_missing
heat_missing_lem c = no_heat c.substance c.heat

module _ (c : Case) (p : Passed (field_tests c)) where
  pub fields : Fields c
  unfolding field_tests value_tests quantity_outside
  fields =
      let surroundings = p.1.1.1.0 in
      let air = neither _ (outside 5000 11000 c.air) p.1.1.1.1.0 in
      let q =
      none_of (outside 1 1000000000 c.mass) (outside 1 50000 c.mean) (outside 1 50000 c.stoichiometric) (outside 0 150000 c.heat) (outside 1 1000000 c.distance) (outside 1 500 c.body)
      air.0 in
      record {
        substance = (inside 0 75 c.substance p.0).1;
        state = (inside 0 1 c.state p.1.0).1;
        placement = (inside 0 1 c.placement p.1.1.0).1;
        surroundings = (inside 1 4 c.surroundings surroundings).0;
        surroundings_most = (inside 1 4 c.surroundings surroundings).1;
        mass = (inside 1 1000000000 c.mass q.0).0;
        mass_most = (inside 1 1000000000 c.mass q.0).1;
        mean = (inside 1 50000 c.mean q.1).0;
        mean_most = (inside 1 50000 c.mean q.1).1;
        stoichiometric = (inside 1 50000 c.stoichiometric q.2).0;
        stoichiometric_most = (inside 1 50000 c.stoichiometric q.2).1;
        heat_most = (inside 0 150000 c.heat q.3).1;
        distance = (inside 1 1000000 c.distance q.4).0;
        distance_most = (inside 1 1000000 c.distance q.4).1;
        body = (inside 1 500 c.body q.5).0;
        body_most = (inside 1 500 c.body q.5).1;
        air = (inside 5000 11000 c.air air.1).0;
        air_most = (inside 5000 11000 c.air air.1).1;
      }

  pub heated : Heated c
  unfolding field_tests value_tests
  heated =
      record {
        fields = fields;
        heat = let n = eqb-false (heat_of c.substance c.heat) 0 (sym (heat_missing_lem c) ∙ p.1.1.1.1.1.0) in omega arith;
      }

-- and such a case passes them
pub heated_passes : {c : Case} → Heated c → first_of (field_tests c) ≡ none
unfolding field_tests value_tests quantity_outside
heated_passes {c} h =
    let f = h.fields in
    let others =
    none_applies
    (not_outside 1 1000000000 c.mass f.mass f.mass_most)
    (not_outside 1 50000 c.mean f.mean f.mean_most)
    (not_outside 1 50000 c.stoichiometric f.stoichiometric f.stoichiometric_most)
    (not_outside 0 150000 c.heat (omega arith) f.heat_most)
    (not_outside 1 1000000 c.distance f.distance f.distance_most)
    (not_outside 1 500 c.body f.body f.body_most) in
    let quantities : quantity_outside c ≡ false = simp (others, not_outside 5000 11000 c.air f.air f.air_most) in
    none_found (field_tests c) (
      not_outside 0 75 c.substance (omega arith) f.substance,
      (
        not_outside 0 1 c.state (omega arith) f.state,
        (
          not_outside 0 1 c.placement (omega arith) f.placement,
          (
            not_outside 1 4 c.surroundings f.surroundings f.surroundings_most,
            (
              quantities,
              (heat_missing_lem c ∙ ne_eqb (heat_of c.substance c.heat) 0 (λ e. omega (arith, h.heat)), tt),
            ),
          ),
        ),
      ),
    )
