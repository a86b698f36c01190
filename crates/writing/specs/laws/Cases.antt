-- A case as it is spelled agrees with the case, and stands for all that agree with it. Assumes nothing.
use Rattle.std.specs.Prelude.{◌≡◌}
use Rattle.std.proofs.Common.{sym, ◌∙◌, arith}
use Rattle.guidance.specs.declared.Case.{Case}
use Rattle.guidance.specs.Substances.{heat_of}
use Rattle.guidance.specs.CloudWords.{Heated}
use Rattle.writing.specs.Spelling.{spelled_heat, as_spelled, Agree}
use Rattle.writing.specs.laws.Heats.{by_heat, keeps_heat, no_greater, settled}

-- it passes tests 3 to 6 where the case does
pub spelled_heated : {c : Case} → Heated c → Heated (as_spelled c)
unfolding as_spelled
spelled_heated {c} h =
    let f = h.fields in
    record {
      fields =
          record {
            substance = f.substance;
            state = f.state;
            placement = f.placement;
            surroundings = f.surroundings;
            surroundings_most = f.surroundings_most;
            mass = f.mass;
            mass_most = f.mass_most;
            mean = f.mean;
            mean_most = f.mean_most;
            stoichiometric = f.stoichiometric;
            stoichiometric_most = f.stoichiometric_most;
            heat_most = omega (arith, no_greater c.substance c.heat, f.heat_most);
            distance = f.distance;
            distance_most = f.distance_most;
            body = f.body;
            body_most = f.body_most;
            air = f.air;
            air_most = f.air_most;
          };
      heat = omega (arith, keeps_heat c.substance c.heat, h.heat);
    }

pub spelled_again : (c : Case) → as_spelled (as_spelled c) ≡ as_spelled c
unfolding as_spelled
spelled_again c =
    λ k. record {
      substance = c.substance;
      state = c.state;
      placement = c.placement;
      surroundings = c.surroundings;
      mass = c.mass;
      mean = c.mean;
      stoichiometric = c.stoichiometric;
      heat = settled c.substance c.heat k;
      distance = c.distance;
      body = c.body;
      air = c.air;
    }

pub agree_spelled : {c d : Case} → Agree c d → as_spelled c ≡ as_spelled d
unfolding as_spelled
agree_spelled {c} {d} a =
    let heat : spelled_heat c.substance c.heat ≡ spelled_heat d.substance d.heat
    = by_heat c.substance c.heat ∙ (λ k. spelled_heat (a.substance k) (a.heat k)) ∙ sym (by_heat d.substance d.heat) in
    λ k. record {
      substance = a.substance k;
      state = a.state k;
      placement = a.placement k;
      surroundings = a.surroundings k;
      mass = a.mass k;
      mean = a.mean k;
      stoichiometric = a.stoichiometric k;
      heat = heat k;
      distance = a.distance k;
      body = a.body k;
      air = a.air k;
    }

pub spelled_agree : {c d : Case} → as_spelled c ≡ as_spelled d → Agree c d
unfolding as_spelled
spelled_agree {c} {d} e =
    record {
      substance = λ k. (e k).substance;
      state = λ k. (e k).state;
      placement = λ k. (e k).placement;
      surroundings = λ k. (e k).surroundings;
      mass = λ k. (e k).mass;
      mean = λ k. (e k).mean;
      stoichiometric = λ k. (e k).stoichiometric;
      heat = sym (keeps_heat c.substance c.heat) ∙ (λ k. heat_of (e k).substance (e k).heat) ∙ keeps_heat d.substance d.heat;
      distance = λ k. (e k).distance;
      body = λ k. (e k).body;
      air = λ k. (e k).air;
    }
