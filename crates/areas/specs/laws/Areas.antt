-- One byte more of an area, and the marks that it ends in. Assumes nothing.
use Rattle.std.specs.Prelude.{ℕ, suc, ◌+◌, ◌≡◌, refl, Bool, true, false, cond, List, [], ◌∷◌, ◌++◌, ◌==◌, length, reverse}
use Rattle.std.specs.List.{take_while}
use Rattle.std.proofs.lemmas.Grind.{reverse_onto}
use Rattle.std.proofs.lemmas.List.{reverse-reverse, length-reverse}
use Rattle.std.proofs.Common.{ap, ◌∙◌, arith}
use Rattle.std.proofs.lemmas.List.Sums.{take_while-cons}
use Rattle.areas.specs.Areas.{mark, before, written_in, marks_of}

pub one_more : (l : List ℕ) (b : ℕ) → written_in (l ++ (b ∷ [])) ≡ cond (b == mark) (written_in l) (suc (length l))
unfolding written_in
one_more [] b = refl
one_more (x ∷ l) b = ap (before x) (one_more l b) ∙ go (b == mark)
  where
    go : (t : Bool) → before x (cond t (written_in l) (suc (length l))) ≡ cond t (before x (written_in l)) (suc (suc (length l)))
    go true = refl
    go false = refl

-- the same of an area that is read from its end on
from_end : (l : List ℕ) → written_in (reverse l) + length (take_while (λ b. b == mark) l) ≡ length l
unfolding written_in
from_end [] = refl
from_end (b ∷ l) =
    let r : reverse (b ∷ l) ≡ reverse l ++ (b ∷ []) = reverse_onto l b [] in
    rw (r, take_while-cons (λ (b : ℕ). b == mark) b l, one_more (reverse l) b, length-reverse l) (go (b == mark) (from_end l))
  where
    go : (t : Bool) → written_in (reverse l) + length (take_while (λ b. b == mark) l) ≡ length l → cond t (written_in (reverse l)) (suc (length l)) + length (cond t (b ∷ take_while (λ b. b == mark) l) []) ≡ suc (length l)
    go true more = omega (arith, more)
    go false more = omega arith

-- what was written, and then marks alone
pub written_marks : (area : List ℕ) → written_in area + marks_of area ≡ length area
written_marks area =
    let e = from_end (reverse area) in
    let e' = rw (reverse-reverse area, length-reverse area) at e in
    e'
