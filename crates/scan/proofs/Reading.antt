-- The number that a word spells is small, and the first of a text's lines. Assumes nothing.
use Rattle.std.proofs.Common.{◌≡◌, ℕ, suc, ◌+◌, ◌≤◌, Bool, true, false, ◌||◌, eqb, eqb-true, List, [], ◌∷◌, length, refl, ap, ◌∙◌, add-one, arith}
use Rattle.std.specs.List.{fold, before_first, after_first}
use Rattle.std.proofs.lemmas.Bool.Decides.{nat_tests}
use Rattle.scan.specs.Words.{largest, shifted, spelled, onto, lines_of}

shifted_small : (value b : ℕ) → value ≤ largest → shifted value b ≤ largest
shifted_small value b h = grind (arith, nat_tests)

fold_small : (value : ℕ) (word : List ℕ) → value ≤ largest → fold shifted value word ≤ largest
fold_small value [] h = h
fold_small value (b ∷ word) h = fold_small (shifted value b) word (shifted_small value b h)

pub spelled_small : (word : List ℕ) → spelled word ≤ largest
spelled_small word = fold_small 0 word (omega arith)

one-add : (n : ℕ) → 1 + n ≡ suc n
one-add n = omega arith

module _ (p : ℕ → Bool) (b : ℕ) (text : List ℕ) where
  before_yes : p b ≡ true → before_first p (b ∷ text) ≡ []
  before_yes h = simp h

  after_yes : p b ≡ true → after_first p (b ∷ text) ≡ text
  after_yes h = simp h

  before_no : p b ≡ false → before_first p (b ∷ text) ≡ b ∷ before_first p text
  before_no h = simp (h, one-add)

  after_no : p b ≡ false → after_first p (b ∷ text) ≡ after_first p text
  after_no h = simp (h, one-add, add-one)

-- the first line of a text that has bytes, by any test that finds LF
module _ (p : ℕ → Bool) (finds : (b : ℕ) → p b ≡ eqb b 10) where
  onto_first : (b : ℕ) (text : List ℕ)
      → (t : Bool)
      → eqb b 10 ≡ t
      → onto b (lines_of text) ≡ (b ∷ before_first p text) ∷ lines_of (after_first p text)
      → lines_of (b ∷ text) ≡ before_first p (b ∷ text) ∷ lines_of (after_first p (b ∷ text))
  unfolding lines_of
  onto_first b text true h more =
      let e = finds b ∙ h in simp (h, before_yes p b text e, after_yes p b text e)
  onto_first b text false h more =
      let e = finds b ∙ h in rw (before_no p b text e, after_no p b text e) (simp h more)

  pub lines-cons : (b : ℕ) (text : List ℕ) → lines_of (b ∷ text) ≡ before_first p (b ∷ text) ∷ lines_of (after_first p (b ∷ text))
  unfolding lines_of
  lines-cons b [] = onto_first b [] (eqb b 10) refl refl
  lines-cons b (c ∷ text) = onto_first b (c ∷ text) (eqb b 10) refl (ap (onto b) (lines-cons c text))

  pub lines_first : (text : List ℕ) → eqb (length text) 0 ≡ false → lines_of text ≡ before_first p text ∷ lines_of (after_first p text)
  lines_first [] some = cc
  lines_first (b ∷ text) some = lines-cons b text

pub lines_none : (text : List ℕ) → eqb (length text) 0 ≡ true → lines_of text ≡ []
unfolding lines_of
lines_none [] none = refl
lines_none (b ∷ text) none = absurd (omega (arith, eqb-true (length (b ∷ text)) 0 none))

either_same : (t : Bool) → (t || t) ≡ t
either_same true = refl
either_same false = refl

-- a test of LF twice is a test of it
pub finds_twice : (b : ℕ) → (eqb b 10 || eqb b 10) ≡ eqb b 10
finds_twice b = either_same (eqb b 10)
