-- The substances (document 01, "Substances"; 003, Table 1, each column read downward): class, β and heat.
use Rattle.std.specs.Prelude.{cond, ℕ, zero, suc, ◌*◌, List, [], ◌∷◌, ◌++◌, get_or, leb}

-- β in hundredths; 0 stands for the dash, for no substance has a β of 0
abbrev pub class1 : List ℕ
class1 = 110 ∷ 103 ∷ 273 ∷ 44 ∷ 41 ∷ 105 ∷ 25 ∷ 70 ∷ 62 ∷ 30 ∷ []

abbrev pub class2 : List ℕ
class2 = 67 ∷ 62 ∷ 104 ∷ 100 ∷ 100 ∷ 100 ∷ 105 ∷ 104 ∷ 32 ∷ 108 ∷ 107 ∷ 100 ∷ 66 ∷ 77 ∷ 0 ∷ 77 ∷ 82 ∷ []

abbrev pub class3 : List ℕ
class3 = 56 ∷ 65 ∷ 100 ∷ 51 ∷ 42 ∷ 100 ∷ 38 ∷ 100 ∷ 70 ∷ 53 ∷ 79 ∷ 76 ∷ 71 ∷ 100 ∷ 77 ∷ 34 ∷ 52 ∷ 62 ∷ 69 ∷ 0 ∷ 79 ∷ 69 ∷ 100 ∷ 46 ∷ 43 ∷ 100 ∷ 84 ∷ 9 ∷ 100 ∷ 80 ∷ []

abbrev pub class4 : List ℕ
class4 = 42 ∷ 88 ∷ 100 ∷ 100 ∷ 42 ∷ 100 ∷ 100 ∷ 114 ∷ 100 ∷ 53 ∷ 12 ∷ 91 ∷ 23 ∷ 92 ∷ 52 ∷ 90 ∷ 25 ∷ 14 ∷ []

-- by number: 0, the unlisted substance, has no β; then 1 to 10, 11 to 27, 28 to 57 and 58 to 75
unfoldable pub betas : List ℕ
betas = 0 ∷ (class1 ++ (class2 ++ (class3 ++ class4)))

-- β of a substance, 0 where it has none
unfoldable pub beta_of : ℕ → ℕ
beta_of substance = get_or betas substance 0

-- the class; the unlisted substance is of class 1
unfoldable pub class_of : ℕ → ℕ
class_of substance = cond (leb substance 10) 1 (cond (leb substance 27) 2 (cond (leb substance 57) 3 4))

-- J/g: the given heat; where it is 0, 440 times β in hundredths
unfoldable pub heat_of : (substance given : ℕ) → ℕ
heat_of substance zero = 440 * beta_of substance
heat_of substance (suc given) = suc given
