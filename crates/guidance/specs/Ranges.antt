-- The speed ranges as the guidance prints them (003, Table 2; request 4).
use Rattle.std.specs.Prelude.{ℕ, ◌-◌, List, [], ◌∷◌, get_or}

-- a row for each class, a column for each surroundings, both 1 to 4
unfoldable pub ranges : List (List ℕ)
ranges =
    (1 ∷ 1 ∷ 2 ∷ 3 ∷ [])
    ∷ (1 ∷ 2 ∷ 3 ∷ 4 ∷ [])
    ∷ (2 ∷ 3 ∷ 4 ∷ 5 ∷ [])
    ∷ (3 ∷ 4 ∷ 5 ∷ 6 ∷ [])
    ∷ []

-- the table's place for a class in its surroundings
unfoldable pub range_at : (class surroundings : ℕ) → ℕ
range_at class surroundings = get_or (get_or ranges (class - 1) []) (surroundings - 1) 0
