-- What the entry for C promises that turns stored columns back: the verdict as one number, and every byte of the area as the tests say (request 12).
use Rattle.std.specs.Prelude.{ℕ, ◌≡◌, List, length}
use Rattle.refusals.specs.Order.{first_of}
use Rattle.columns.specs.Refusals.{code}
use Rattle.columns.specs.Stored.{restored, restore_tests, verdict_by, with_bytes}

pub record TurnedBack (stored before : List ℕ) (n : ℕ) (after : List ℕ) : Type 0 where
  pub returned : n ≡ code (verdict_by (first_of (restore_tests stored (length before))) (restored stored))
  pub area : after ≡ with_bytes (first_of (restore_tests stored (length before))) (restored stored) before
