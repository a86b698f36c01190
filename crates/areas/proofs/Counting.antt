-- What was written in the first bytes of an area, one byte after the other. Assumes nothing.
use Rattle.std.specs.Prelude.{ℕ, suc, ◌+◌, ◌≤◌, ◌<◌, ◌≡◌, refl, Bool, true, false, cond, List, [], ◌∷◌, ◌++◌, eqb, length, get_or, take}
use Rattle.std.proofs.Common.{sym, ap, ◌∙◌, add-one, arith, take_all, length-take-le, take-suc, eq-eqb, ne_eqb}
use Rattle.areas.specs.Areas.{mark, before, written_in}

pub one_more : (l : List ℕ) (b : ℕ) → written_in (l ++ (b ∷ [])) ≡ cond (eqb b mark) (written_in l) (suc (length l))
unfolding written_in
one_more [] b = refl
one_more (x ∷ l) b = ap (before x) (one_more l b) ∙ go (eqb b mark)
  where
    go : (t : Bool) → before x (cond t (written_in l) (suc (length l))) ≡ cond t (before x (written_in l)) (suc (suc (length l)))
    go true = refl
    go false = refl

-- so much is written in the first i bytes, and how much in one more
pub record Counted (area : List ℕ) (n i : ℕ) : Type 0 where
  pub count : n ≡ written_in (take i area)
  pub most : n ≤ i
  pub within : i ≤ length area

pub begin : (area : List ℕ) → Counted area 0 0
unfolding written_in
begin area = record { count = refl; most = omega arith; within = omega arith }

next : (area : List ℕ) (i : ℕ) → i < length area → written_in (take (i + 1) area) ≡ cond (eqb (get_or area i 0) mark) (written_in (take i area)) (i + 1)
next area i h =
    ap (λ (k : ℕ). written_in (take k area)) (add-one i)
    ∙ ap written_in (take-suc area i 0 h)
    ∙ one_more (take i area) (get_or area i 0)
    ∙ ap (λ (k : ℕ). cond (eqb (get_or area i 0) mark) (written_in (take i area)) k) (ap suc (length-take-le i area (omega arith)) ∙ sym (add-one i))

pub marked : {area : List ℕ} {n i : ℕ} → Counted area n i → i < length area → get_or area i 0 ≡ mark → Counted area n (i + 1)
marked {area} {n} {i} s h e = record { count = s.count ∙ sym (next area i h ∙ simp (eq-eqb (get_or area i 0) mark e)); most = omega arith; within = omega arith }

pub unmarked : {area : List ℕ} {n i : ℕ} → Counted area n i → i < length area → (get_or area i 0 ≡ mark → ⊥) → Counted area (i + 1) (i + 1)
unmarked {area} {n} {i} s h e = record { count = sym (next area i h ∙ simp (ne_eqb (get_or area i 0) mark e)); most = omega arith; within = omega arith }

pub ended : {area : List ℕ} {n i : ℕ} → Counted area n i → length area ≤ i → (n ≡ written_in area) × (n ≤ length area)
ended {area} {n} {i} s h = (s.count ∙ ap written_in (take_all i area h), omega (arith, s.most, s.within))
