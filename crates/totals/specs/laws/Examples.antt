-- Totals worked on the definitions. Assumes nothing.
use Rattle.std.specs.Prelude.{ℕ, ◌≡◌, [], ◌∷◌, None, Some}
use Rattle.std.proofs.Math.Path.{refl}
use Rattle.guidance.specs.declared.Case.{Case}
use Rattle.places.specs.declared.Held.{Held}
use Rattle.places.specs.Holes.{ahead, trim, withdrawn, closed}
use Rattle.totals.specs.Totals.{count, greatest, first_with, totals_of}

-- zeros and no place
pub nothing_yet : totals_of [] ≡ record { cases = 0; greatest = 0; place = 0 }
unfolding totals_of count greatest first_with
nothing_yet = refl

module _ (c : Case) where
  abbrev with : (upper : ℕ) → Held
  with u = record { case = c; upper = u }

  -- the first of two places that have the greatest
  pub first_of_two : totals_of (Some (with 5) ∷ None ∷ Some (with 9) ∷ Some (with 9) ∷ []) ≡ record { cases = 3; greatest = 9; place = 3 }
  unfolding totals_of count greatest first_with
  first_of_two = refl

  -- it is withdrawn, and the other is shown; closed up, its place is another
  pub other_shown
      : totals_of (withdrawn (Some (with 5) ∷ None ∷ Some (with 9) ∷ Some (with 9) ∷ []) 3) ≡ record { cases = 2; greatest = 9; place = 4 }
  unfolding totals_of count greatest first_with withdrawn trim ahead
  other_shown = refl

  pub closed_up
      : totals_of (closed (Some (with 5) ∷ None ∷ Some (with 9) ∷ Some (with 9) ∷ [])) ≡ record { cases = 3; greatest = 9; place = 2 }
  unfolding totals_of count greatest first_with closed
  closed_up = refl

  -- an upper end of 0 is a case as any other
  pub zero_is_an_end : totals_of (Some (with 0) ∷ []) ≡ record { cases = 1; greatest = 0; place = 1 }
  unfolding totals_of count greatest first_with
  zero_is_an_end = refl
