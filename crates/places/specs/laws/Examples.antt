-- Sequences worked on a plain list with holes. Assumes nothing.
use Rattle.std.specs.Prelude.{◌≡◌, [], ◌∷◌, None, Some}
use Rattle.std.proofs.Math.Path.{refl}
use Rattle.places.specs.Holes.{ahead, trim, added, withdrawn, closed}

module _ {A : Type 0} (a b c : A) where
  -- a gap is not filled
  pub gap_stays : added (withdrawn (added (added [] a) b) 1) c ≡ None ∷ Some b ∷ Some c ∷ []
  unfolding added withdrawn trim ahead
  gap_stays = refl

  -- a place past the last is no gap
  pub last_again : added (withdrawn (added (added [] a) b) 2) c ≡ Some a ∷ Some c ∷ []
  unfolding added withdrawn trim ahead
  last_again = refl

  -- nor are gaps before it, once it goes
  pub none_left : withdrawn (withdrawn (added (added [] a) b) 1) 2 ≡ []
  unfolding added withdrawn trim ahead
  none_left = refl

  pub order_kept : closed (withdrawn (added (added (added [] a) b) c) 2) ≡ Some a ∷ Some c ∷ []
  unfolding added withdrawn closed trim ahead
  order_kept = refl
