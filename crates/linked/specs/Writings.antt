-- What the entries for C that write a case promise: the verdict as one number, and every byte of the area as the verdict says (requests 9 and 11).
use Rattle.std.specs.Prelude.{ℕ, ◌≡◌, List}
use Rattle.guidance.specs.declared.Case.{Case}
use Rattle.writable.specs.Verdict.{Verdict}
use Rattle.writable.specs.Refusals.{code}
use Rattle.writable.specs.Writing.{with_text}

pub record WroteCase (text : Case → List ℕ) (due : Verdict) (before : List ℕ) (n : ℕ) (after : List ℕ) : Type 0 where
  pub returned : n ≡ code due
  pub area : after ≡ with_text text due before

-- a case of eleven numbers, in the order of the frame
abbrev pub of_numbers : (substance state placement surroundings mass mean stoichiometric heat distance body air : ℕ) → Case
of_numbers substance state placement surroundings mass mean stoichiometric heat distance body air =
    record {
      substance = substance;
      state = state;
      placement = placement;
      surroundings = surroundings;
      mass = mass;
      mean = mean;
      stoichiometric = stoichiometric;
      heat = heat;
      distance = distance;
      body = body;
      air = air;
    }
