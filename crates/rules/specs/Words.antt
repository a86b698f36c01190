-- The rules by number, for callers in C, and in words (request 5).
use Rattle.std.specs.Prelude.{ℕ, List, [], ◌∷◌}
use Rattle.rules.specs.declared.Rule.{Rule}
use Rattle.rules.specs.declared.Rule.TheVariants.{NearField, Detonation, Deflagration, DeflagrationAt034, Undecided}

abbrev pub number : Rule → ℕ
number (Undecided a b) = 0
number NearField = 1
number Detonation = 2
number Deflagration = 3
number DeflagrationAt034 = 4

-- as bytes: near-field value, detonation formula, deflagration formula, deflagration formula at 0.34, undecided
abbrev pub words : Rule → List ℕ
words NearField = 110 ∷ 101 ∷ 97 ∷ 114 ∷ 45 ∷ 102 ∷ 105 ∷ 101 ∷ 108 ∷ 100 ∷ 32 ∷ 118 ∷ 97 ∷ 108 ∷ 117 ∷ 101 ∷ []
words Detonation = 100 ∷ 101 ∷ 116 ∷ 111 ∷ 110 ∷ 97 ∷ 116 ∷ 105 ∷ 111 ∷ 110 ∷ 32 ∷ 102 ∷ 111 ∷ 114 ∷ 109 ∷ 117 ∷ 108 ∷ 97 ∷ []
words Deflagration = 100 ∷ 101 ∷ 102 ∷ 108 ∷ 97 ∷ 103 ∷ 114 ∷ 97 ∷ 116 ∷ 105 ∷ 111 ∷ 110 ∷ 32 ∷ 102 ∷ 111 ∷ 114 ∷ 109 ∷ 117 ∷ 108 ∷ 97 ∷ []
words DeflagrationAt034 = 100 ∷ 101 ∷ 102 ∷ 108 ∷ 97 ∷ 103 ∷ 114 ∷ 97 ∷ 116 ∷ 105 ∷ 111 ∷ 110 ∷ 32 ∷ 102 ∷ 111 ∷ 114 ∷ 109 ∷ 117 ∷ 108 ∷ 97 ∷ 32 ∷ 97 ∷ 116 ∷ 32 ∷ 48 ∷ 46 ∷ 51 ∷ 52 ∷ []
words (Undecided a b) = 117 ∷ 110 ∷ 100 ∷ 101 ∷ 99 ∷ 105 ∷ 100 ∷ 101 ∷ 100 ∷ []
