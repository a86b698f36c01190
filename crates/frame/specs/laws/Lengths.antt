-- Laws of the test of a length: which of the two it is, and that of a line is twice that of its frame. Assumes nothing.
use Rattle.std.specs.Prelude.{ℕ, ◌≤◌, ◌≡◌, refl, Bool, true, false, ◌||◌, ◌⊎◌, List, eqb, length}
use Rattle.std.proofs.Common.{inl, inr, ⊎_elim, arith, eq-eqb, ne_eqb, eqb-true}
use Rattle.hexadecimals.specs.Digits.{bytes_of}
use Rattle.hexadecimals.specs.laws.Spelling.{length_bytes_of}
use Rattle.frame.specs.Tests.{either}

module _ (a b : ℕ) (s : List ℕ) where
  pub is_first : length s ≡ a → either a b s ≡ true
  is_first h = simp (eq-eqb (length s) a h)

  pub is_second : length s ≡ b → either a b s ≡ true
  is_second h = simp (eq-eqb (length s) b h) (go (eqb (length s) a))
    where
      go : (t : Bool) → (t || true) ≡ true
      go true = refl
      go false = refl

  pub is_neither : (length s ≡ a → ⊥) → (length s ≡ b → ⊥) → either a b s ≡ false
  is_neither h k = simp (ne_eqb (length s) a h, ne_eqb (length s) b k)

  pub which : either a b s ≡ true → (length s ≡ a) ⊎ (length s ≡ b)
  which h = go (eqb (length s) a) refl h
    where
      go : (t : Bool) → eqb (length s) a ≡ t → (t || eqb (length s) b) ≡ true → (length s ≡ a) ⊎ (length s ≡ b)
      go true e h = inl (eqb-true (length s) a e)
      go false e h = inr (eqb-true (length s) b h)

pub enough : (frame : List ℕ) → either 22 24 frame ≡ true → 22 ≤ length frame
enough frame h = ⊎_elim (λ e. omega arith) (λ e. omega arith) (which 22 24 frame h)

-- a line of 44 or 48 characters spells a frame of 22 or 24 bytes
pub spelled_length : (line : List ℕ) → either 44 48 line ≡ true → either 22 24 (bytes_of line) ≡ true
spelled_length line h =
    ⊎_elim (λ e. is_first 22 24 (bytes_of line) (length_bytes_of 22 line e)) (λ e. is_second 22 24 (bytes_of line) (length_bytes_of 24 line e)) (which 44 48 line h)
