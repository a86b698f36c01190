-- Where each number of an answer stands (document 01, "The answer frame"): range; pressure and impulse; five probits; five damages.
use Rattle.std.specs.Prelude.{ℤ, ℕ, List, [], ◌∷◌, ◌++◌}
use Rattle.layout.specs.declared.Five.{Five}
use Rattle.layout.specs.declared.Interval.{Interval}
use Rattle.layout.specs.Bytes.{words, signeds, halves}

unfoldable pub wave_bytes : (pressure impulse : Interval ℕ) → List ℕ
wave_bytes p i = words p.lower p.upper ++ words i.lower i.upper

unfoldable pub probit_of : Interval ℤ → List ℕ
probit_of p = signeds p.lower p.upper

unfoldable pub probit_bytes : Five (Interval ℤ) → List ℕ
probit_bytes p = (((probit_of p.first ++ probit_of p.second) ++ probit_of p.third) ++ probit_of p.fourth) ++ probit_of p.fifth

unfoldable pub damage_of : Interval ℕ → List ℕ
damage_of d = halves d.lower d.upper

unfoldable pub damage_bytes : Five (Interval ℕ) → List ℕ
damage_bytes d = (((damage_of d.first ++ damage_of d.second) ++ damage_of d.third) ++ damage_of d.fourth) ++ damage_of d.fifth

unfoldable pub range_byte : ℕ → List ℕ
range_byte range = range ∷ []

-- the 77 bytes
unfoldable pub answer_bytes : (range : ℕ) (pressure impulse : Interval ℕ) (probits : Five (Interval ℤ)) (damages : Five (Interval ℕ)) → List ℕ
answer_bytes range p i probits damages = ((range_byte range ++ wave_bytes p i) ++ probit_bytes probits) ++ damage_bytes damages
