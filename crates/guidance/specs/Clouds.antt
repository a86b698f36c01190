-- From a case to its speed range and energy (document 01, "From frame to speed range").
use Rattle.std.specs.Prelude.{ℕ, suc, ◌*◌, ◌<◌, Bool, ◌&&◌, cond, eqb, ltb}
use Rattle.std.proofs.Math.Decide.{dec_le}
use Rattle.std.proofs.Common.{arith}
use Rattle.exact.specs.Fraction.{Ratio, whole, ◌⊗◌}
use Rattle.guidance.specs.declared.Case.{Case}
use Rattle.guidance.specs.Substances.{class_of, heat_of}
use Rattle.guidance.specs.Ranges.{range_at}

-- n/d, for a denominator that is written out
abbrev pub over : (n d : ℕ) → 0 < d → Ratio
over n d z = record { num = n; den = d; positive = z }

-- the printed range of the substance's class in its surroundings
unfoldable pub range_of : Case → ℕ
range_of c = range_at (class_of c.substance) c.surroundings

abbrev pub heterogeneous : Case → Bool
heterogeneous c = eqb c.state 1

-- ranges 2 to 6 deflagrate; range 1 is detonation
abbrev pub deflagrates : Case → Bool
deflagrates c = ltb 1 (range_of c)

-- times 2 on the ground (003, item 11)
unfoldable pub ground_factor : Case → Ratio
ground_factor c = cond (eqb c.placement 1) (whole 2) (whole 1)

-- times s/c if c > s
unfoldable pub lean_by : (s c : ℕ) → Dec (s < c) → Ratio
lean_by s c (yes h) = record { num = s; den = c; positive = omega arith }
lean_by s c (no h) = whole 1

unfoldable pub lean_factor : Case → Ratio
lean_factor c = lean_by c.stoichiometric c.mean (dec_le (suc c.stoichiometric) c.mean)

-- times 3/4 for a heterogeneous cloud in ranges 2 to 6
unfoldable pub aerosol_factor : Case → Ratio
aerosol_factor c = cond (heterogeneous c && deflagrates c) (over 3 4 (omega arith)) (whole 1)

-- E in joules, with every factor in it
unfoldable pub energy : Case → Ratio
energy c = whole (c.mass * heat_of c.substance c.heat) ⊗ ground_factor c ⊗ lean_factor c ⊗ aerosol_factor c
