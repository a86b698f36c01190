-- Bisection between a number of which P holds and a greater one of which Q holds, where at each number between them P or Q is found to hold.
-- It ends at neighbours. Neither P nor Q need hold of all the numbers on its side.
use Rattle.std.specs.Prelude.{ℕ, ◌+◌, ◌/◌, ◌<◌}

-- P holds at a, Q at b, and a < b
pub record Between (P Q : ℕ → Type 0) (a b : ℕ) : Type 0 where
  pub order : a < b
  pub low : P a
  pub high : Q b

abbrev pub middle : ℕ → ℕ → ℕ
middle a b = (a + b) / 2

-- the middle lies strictly between ends that are no neighbours
pub record Inside (a b m : ℕ) : Type 0 where
  pub above : a < m
  pub below : m < b
