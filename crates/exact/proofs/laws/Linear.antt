-- Linear arithmetic over many fractions by `omega`: bring them to one denominator D, and an order between sums is one
-- between the numbers of D-ths. A law over `Scaled D x` variables is linear in the atoms `p.parts`, however many there are;
-- `common` and `scaled` give the D for a list of fractions. Assumes nothing.
use Rattle.std.specs.Prelude.{ℕ, ◌+◌, ◌*◌, ◌≤◌, ◌<◌, ◌≡◌, List, [], ◌∷◌}
use Rattle.std.proofs.Common.{ap, mul-pos, mul-le-mul_right, le_of_mul-le-mul_right, arith}
use Rattle.exact.specs.Fraction.{Ratio, ◌≼◌, ◌⊕◌}

-- x is so many D-ths
pub record Scaled (D : ℕ) (x : Ratio) : Type 0 where
  pub parts : ℕ
  pub exact : x.num * D ≡ parts * x.den

infixl 60 ◌+ˢ◌
pub sum_exact : {D : ℕ} {x y : Ratio} (p : Scaled D x) (q : Scaled D y) → (x ⊕ y).num * D ≡ (p.parts + q.parts) * (x ⊕ y).den
unfolding ◌⊕◌
sum_exact {D} {x} {y} p q = omega (arith, ap (λ i. i * y.den) p.exact, ap (λ i. i * x.den) q.exact)

abbrev pub ◌+ˢ◌ : {D : ℕ} {x y : Ratio} → Scaled D x → Scaled D y → Scaled D (x ⊕ y)
p +ˢ q = record { parts = p.parts + q.parts; exact = sum_exact p q }

-- from an order of fractions to one of numbers, and back
pub read : {D : ℕ} {x y : Ratio} (p : Scaled D x) (q : Scaled D y) → x ≼ y → p.parts ≤ q.parts
read {D} {x} {y} p q h =
    le_of_mul-le-mul_right {k = x.den * y.den}
    (omega (arith, ap (λ i. i * y.den) p.exact, ap (λ i. i * x.den) q.exact, mul-le-mul_right D h.cross))
    (mul-pos x.positive y.positive)

pub back : {D : ℕ} {x y : Ratio} → 0 < D → (p : Scaled D x) (q : Scaled D y) → p.parts ≤ q.parts → x ≼ y
back {D} {x} {y} z p q h =
    record {
      cross =
          le_of_mul-le-mul_right {k = D}
          (omega (arith, ap (λ i. i * y.den) p.exact, ap (λ i. i * x.den) q.exact, mul-le-mul_right (x.den * y.den) h)) z;
    }

-- The fractions of a list over one denominator

pub common : List Ratio → ℕ
common [] = 1
common (x ∷ xs) = x.den * common xs

pub common_pos : (xs : List Ratio) → 0 < common xs
unfolding common
common_pos [] = omega arith
common_pos (x ∷ xs) = mul-pos x.positive (common_pos xs)

-- a proof of G that takes each fraction of the list in D-ths
abbrev pub Given : ℕ → List Ratio → Type 0 → Type 0
Given D [] G = G
Given D (x ∷ xs) G = Scaled D x → Given D xs G

here : (x : Ratio) (E : ℕ) → Scaled (x.den * E) x
here x E = record { parts = x.num * E; exact = omega arith }

wider : (x y : Ratio) (E : ℕ) → Scaled E x → Scaled (y.den * E) x
wider x y E p = record { parts = y.den * p.parts; exact = omega (arith, ap (λ i. i * y.den) p.exact) }

data In (x : Ratio) : List Ratio → Type 0 where
  first : {xs : List Ratio} → In x (x ∷ xs)
  later : {y : Ratio} {xs : List Ratio} → In x xs → In x (y ∷ xs)

scaled : (xs : List Ratio) {x : Ratio} → In x xs → Scaled (common xs) x
unfolding common
scaled [] i = elim i [ ]
scaled (y ∷ xs) first = here y (common xs)
scaled (y ∷ xs) (later i) = wider _ y (common xs) (scaled xs i)

supply : (all xs : List Ratio) (G : Type 0) → ((x : Ratio) → In x xs → In x all) → Given (common all) xs G → G
supply all [] G f g = g
supply all (x ∷ xs) G f g = supply all xs G (λ y i. f y (later i)) (g (scaled all (f x first)))

-- a goal that holds for every denominator at which the fractions are whole numbers of parts holds
pub linear : (xs : List Ratio) {G : Type 0} → ((D : ℕ) → 0 < D → Given D xs G) → G
linear xs {G} g = supply xs xs G (λ x i. i) (g (common xs) (common_pos xs))
