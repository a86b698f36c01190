-- The orders and signs of fractions are decidable: what each decision answers is said whole by its type. Assumes nothing.
use Rattle.std.specs.Prelude.{suc, ◌+◌, ◌*◌, ◌≤◌}
use Rattle.std.proofs.Common.{arith}
use Rattle.std.proofs.Math.Logic.Dec
use Rattle.std.proofs.Math.Decide.{dec_le}
use Rattle.exact.specs.Fraction.{Ratio, Above0, Frac, ◌⊑◌, Positive}

unfoldable pub dec_above0 : (x : Ratio) → Dec (Above0 x)
dec_above0 x = elim (dec_le 1 x.num) [ yes h ↦ yes (record { above = h }) | no h ↦ no (λ l. h l.above) ]

unfoldable pub dec_f : (x y : Frac) → Dec (x ⊑ y)
dec_f x y =
    elim (dec_le (x.plus * y.den + y.minus * x.den) (y.plus * x.den + x.minus * y.den))
    [ yes h ↦ yes (record { cross = h }) | no h ↦ no (λ l. h l.cross) ]

unfoldable pub dec_positive : (x : Frac) → Dec (Positive x)
dec_positive x = elim (dec_le (suc x.minus) x.plus) [ yes h ↦ yes (record { above = h }) | no h ↦ no (λ l. h l.above) ]

unfoldable pub dec_positives : (x y : Frac) → Dec (Positive x × Positive y)
dec_positives x y = Dec.and (dec_positive x) (dec_positive y)

-- Laws of what a decision chooses, by cases

pub decided : {P C : Type 0} {f : P → C} {g : ¬ P → C} (Q : C → Type 0) (d : Dec P) → ((h : P) → Q (f h)) → ((h : ¬ P) → Q (g h))
    → Q (elim d [ yes h ↦ f h | no h ↦ g h ])
decided Q (yes h) a b = a h
decided Q (no h) a b = b h

-- the same for two decisions: both yes, the first alone, the second alone, neither
pub decided₂ : {P S C D : Type 0} {f : P → C} {g : ¬ P → C} {u : S → D} {v : ¬ S → D} (R : C → D → Type 0) (d : Dec P) (e : Dec S)
    → ((h : P) (k : S) → R (f h) (u k)) → ((h : P) (k : ¬ S) → R (f h) (v k)) → ((h : ¬ P) (k : S) → R (g h) (u k)) → ((h : ¬ P) (k : ¬ S) → R (g h) (v k))
    → R (elim d [ yes h ↦ f h | no h ↦ g h ]) (elim e [ yes k ↦ u k | no k ↦ v k ])
decided₂ R (yes h) (yes k) a b c z = a h k
decided₂ R (yes h) (no k) a b c z = b h k
decided₂ R (no h) (yes k) a b c z = c h k
decided₂ R (no h) (no k) a b c z = z h k

-- one decision that chooses twice
pub decided_both : {P C D : Type 0} {f : P → C} {g : ¬ P → C} {u : P → D} {v : ¬ P → D} (R : C → D → Type 0) (d : Dec P)
    → ((h : P) → R (f h) (u h)) → ((h : ¬ P) → R (g h) (v h)) → R (elim d [ yes h ↦ f h | no h ↦ g h ]) (elim d [ yes h ↦ u h | no h ↦ v h ])
decided_both R (yes h) a b = a h
decided_both R (no h) a b = b h

-- the order is total

pub ⊑-total : (x y : Frac) → ¬ (x ⊑ y) → y ⊑ x
⊑-total x y h = record { cross = go (dec_le (y.plus * x.den + x.minus * y.den) (x.plus * y.den + y.minus * x.den)) }
  where
    go : Dec (y.plus * x.den + x.minus * y.den ≤ x.plus * y.den + y.minus * x.den)
        → y.plus * x.den + x.minus * y.den ≤ x.plus * y.den + y.minus * x.den
    go (yes l) = l
    go (no l) = absurd (h (record { cross = omega arith }))
