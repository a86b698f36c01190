-- Brackets and intervals, with fractions for ends: when two meet, and the operations over all pairs of ends.
use Rattle.exact.specs.Fraction.{Frac, ◌⊑◌, Positive, ◌⊠◌, inverse}
use Rattle.exact.specs.laws.Decide.{dec_f}

unfoldable pub smaller : Frac → Frac → Frac
smaller x y = elim (dec_f x y) [ yes h ↦ x | no h ↦ y ]

unfoldable pub larger : Frac → Frac → Frac
larger x y = elim (dec_f x y) [ yes h ↦ y | no h ↦ x ]

pub record Bracket : Type 0 where
  pub lo : Frac
  pub hi : Frac

-- the two meet: neither lies wholly above the other
pub record Meet (A B : Bracket) : Type 0 where
  pub first : A.lo ⊑ B.hi
  pub second : B.lo ⊑ A.hi

-- the bracket around four results
abbrev pub outward : Frac → Frac → Frac → Frac → Bracket
outward a b c d = record { lo = smaller (smaller a b) (smaller c d); hi = larger (larger a b) (larger c d) }

-- item 5: `op` over all pairs of ends
unfoldable pub over_pairs : (Frac → Frac → Frac) → Bracket → Bracket → Bracket
over_pairs op A B = outward (op A.lo B.lo) (op A.lo B.hi) (op A.hi B.lo) (op A.hi B.hi)

-- item 5: x/y as x · 1/y over all pairs of ends, for a divisor wholly above 0
unfoldable pub quotients : (A B : Bracket) → Positive B.lo → Positive B.hi → Bracket
quotients A B h k = over_pairs ◌⊠◌ A (record { lo = inverse B.lo h; hi = inverse B.hi k })
