-- Small forms worked on the definitions. Assumes nothing.
use Rattle.std.specs.Prelude.{◌≡◌, refl, true, false, [], ◌∷◌, ℕ, replicate}
use Rattle.columns.specs.Transposed.{column, columns_from, transposed}
use Rattle.columns.specs.Stored.{stored, restored, damaged}

-- two rows of three, and back
pub two_rows : (a b c d e f : ℕ) → transposed 2 3 (a ∷ b ∷ c ∷ d ∷ e ∷ f ∷ []) ≡ a ∷ d ∷ b ∷ e ∷ c ∷ f ∷ []
unfolding transposed columns_from column
two_rows a b c d e f = refl

pub three_rows : (a b c d e f : ℕ) → transposed 3 2 (a ∷ d ∷ b ∷ e ∷ c ∷ f ∷ []) ≡ a ∷ b ∷ c ∷ d ∷ e ∷ f ∷ []
unfolding transposed columns_from column
three_rows a b c d e f = refl

-- no frame is one byte
pub none_stored : stored 0 [] ≡ 0 ∷ []
unfolding stored transposed columns_from column
none_stored = refl

pub none_restored : restored (0 ∷ []) ≡ []
unfolding restored transposed columns_from column
none_restored = refl

-- what is whole and what is damaged
pub none_whole : damaged (0 ∷ []) ≡ false
unfolding damaged
none_whole = refl

pub one_whole : damaged (1 ∷ replicate 24 7) ≡ false
unfolding damaged
one_whole = refl

pub empty_damaged : damaged [] ≡ true
unfolding damaged
empty_damaged = refl

pub count_alone_damaged : damaged (1 ∷ []) ≡ true
unfolding damaged
count_alone_damaged = refl

pub byte_more_damaged : damaged (1 ∷ replicate 25 7) ≡ true
unfolding damaged
byte_more_damaged = refl

pub sixty_four_whole : damaged (64 ∷ replicate 1536 7) ≡ false
unfolding damaged
sixty_four_whole = refl

pub sixty_five_damaged : damaged (65 ∷ replicate 1560 7) ≡ true
unfolding damaged
sixty_five_damaged = refl
