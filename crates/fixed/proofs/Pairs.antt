-- The machine's steps of a product, from factors in units of 2^-28: the least product of two ends, and the shifts. Assumes nothing.
use mathlib.Core.Path.{◌≡◌, refl, ap, ◌∙◌}
use Prim.Native.Nat.{ℕ, ◌^◌, ◌≤◌}
use native.Mathlib.Omega.{arith}
use lib.IntN.{ℤ, pos, negsuc, neg_ℤ, ◌*ℤ◌, ◌-ℤ◌}
use lib.Signed.{shr_z}
use Rattle.std.specs.Int.{int_min}
use Rattle.std.proofs.lemmas.Int.{ints}
use Rattle.fixed.specs.declared.Log.{Log}
use Rattle.fixed.specs.FloorAndCeiling.{floor_z, min_z}
use Rattle.fixed.specs.Logs.{Small}
use Rattle.fixed.specs.Promises.{LogFactors, LogProduct}
use Rattle.fixed.specs.ProductSteps.{Coarse, Mirror, Pairs, lowest_z}
use Rattle.fixed.specs.SignedLaws.{one_sided, neg_up, neg_dn, floor_parts, min_of}
use Rattle.signed.specs.Reading.{R}
use Rattle.signed.specs.Magnitude.{Magnitude}
use Rattle.fixed.proofs.WordSteps.{Step, lower_end, upper_end, quotient, returned, opposite_step, shift_step, product_size, product_step}
use Rattle.fixed.proofs.Products.{lowest_of, Around, around, mirrored, law}

-- The library's smaller of two

lesser : (x y : ℤ) → int_min x y ≡ min_z x y
lesser (pos a) (pos b) = grind (arith, ints)
lesser (pos a) (negsuc b) = refl
lesser (negsuc a) (pos b) = refl
lesser (negsuc a) (negsuc b) = grind (arith, ints)

chosen : {w x y p q : ℤ} → w ≡ int_min x y → x ≡ p → y ≡ q → w ≡ min_z p q
chosen {p = p} {q = q} e h k = rw (e, h, k) (lesser p q)

-- Products of ends

module _ {a b : Log} (s : Pairs a b) where
  al : Magnitude (2 ^ 31) a.lo
  al = lower_end s.left

  ah : Magnitude (2 ^ 31) a.hi
  ah = upper_end s.left

  bl : Magnitude (2 ^ 31) b.lo
  bl = lower_end s.right

  bh : Magnitude (2 ^ 31) b.hi
  bh = upper_end s.right

  pub low_low : Step (R a.lo *ℤ R b.lo) (a.lo *ℤ b.lo)
  low_low = product_step al bl

  pub low_high : Step (R a.lo *ℤ R b.hi) (a.lo *ℤ b.hi)
  low_high = product_step al bh

  pub high_low : Step (R a.hi *ℤ R b.lo) (a.hi *ℤ b.lo)
  high_low = product_step ah bl

  pub high_high : Step (R a.hi *ℤ R b.hi) (a.hi *ℤ b.hi)
  high_high = product_step ah bh

  pub lowest_size : Magnitude (2 ^ 62) (lowest_z a b)
  lowest_size = lowest_of (Magnitude (2 ^ 62)) a b (product_size al bl) (product_size al bh) (product_size ah bl) (product_size ah bh)

  -- u and v: the smaller of two products, and w the smaller of these, as the code finds them
  module _ {u v w : ℤ} (e : u ≡ int_min (R (R a.lo *ℤ R b.lo)) (R (R a.lo *ℤ R b.hi)))
      (f : v ≡ int_min (R (R a.hi *ℤ R b.lo)) (R (R a.hi *ℤ R b.hi))) (g : w ≡ int_min (R u) (R v)) where
    first : R u ≡ min_z (a.lo *ℤ b.lo) (a.lo *ℤ b.hi)
    first = returned (chosen e low_low.read low_high.read) (min_of (Magnitude (2 ^ 62)) (product_size al bl) (product_size al bh))

    second : R v ≡ min_z (a.hi *ℤ b.lo) (a.hi *ℤ b.hi)
    second = returned (chosen f high_low.read high_high.read) (min_of (Magnitude (2 ^ 62)) (product_size ah bl) (product_size ah bh))

    pub lowest_returns : R w ≡ lowest_z a b
    lowest_returns = returned (chosen g first second) lowest_size

-- The product

fourth : {a c : Log} {M : ℕ} → M ≤ 2 ^ 33 → Small a M → Around a c → Small c (2 ^ 31)
fourth {a} {c} l s g =
    let i = one_sided c.lo {N = 2 ^ 31} (omega (arith, g.lower.low, s.lo_up)) (omega (arith, g.lower.high, s.lo_dn)) in
    let j = one_sided c.hi {N = 2 ^ 31} (omega (arith, g.upper.low, s.hi_up)) (omega (arith, g.upper.high, s.hi_dn)) in
    record { lo_up = i.0; lo_dn = i.1; hi_up = j.0; hi_dn = j.1 }

mirror_small : {c m : Log} → Mirror c m → Small c (2 ^ 31) → Small m (2 ^ 31)
mirror_small {c} n s =
    record {
      lo_up = rw n.lower (omega (arith, neg_up c.hi, s.hi_dn));
      lo_dn = rw n.lower (omega (arith, neg_dn c.hi, s.hi_up));
      hi_up = rw n.upper (omega (arith, neg_up c.lo, s.lo_dn));
      hi_dn = rw n.upper (omega (arith, neg_dn c.lo, s.lo_up));
    }

module _ {a b c d : Log} (f : LogFactors a b) (g : Coarse a c) (h : Coarse b d) where
  pub coarse_pairs : Pairs c d
  coarse_pairs = record { left = fourth (omega arith) f.small_left (around g); right = fourth (omega arith) f.small_right (around h) }

  pub coarse_small : Small c (2 ^ 33)
  coarse_small = let s = coarse_pairs.left in omega arith

  module _ {m : Log} (n : Mirror c m) where
    pub mirror_pairs : Pairs m d
    mirror_pairs = record { left = mirror_small n coarse_pairs.left; right = coarse_pairs.right }

    same : lowest_z m d ≡ lowest_z (mirrored c) d
    same =
        ap (λ (x : ℤ). min_z (min_z (x *ℤ d.lo) (x *ℤ d.hi)) (min_z (m.hi *ℤ d.lo) (m.hi *ℤ d.hi))) n.lower
        ∙ ap (λ (x : ℤ). min_z (min_z (neg_ℤ c.hi *ℤ d.lo) (neg_ℤ c.hi *ℤ d.hi)) (min_z (x *ℤ d.lo) (x *ℤ d.hi))) n.upper

    -- l and q: the least products that the code finds
    module _ {l q : ℤ} (e : l ≡ lowest_z c d) (k : q ≡ lowest_z m d) where
      lower : R (shr_z (R l) (2 ^ 26)) ≡ floor_z (lowest_z c d) (2 ^ 26)
      lower = let w = lowest_size coarse_pairs in (shift_step l (2 ^ 26) (returned e w) w).read

      pub upper : Step (pos 0 -ℤ R (shr_z (R q) (2 ^ 26))) (neg_ℤ (floor_z (lowest_z m d) (2 ^ 26)))
      upper =
          let w = lowest_size mirror_pairs in
          opposite_step (shr_z (R q) (2 ^ 26)) (shift_step q (2 ^ 26) (returned k w) w).read (quotient (lowest_z m d) (2 ^ 26) w)

      pub product_returns : LogProduct a b (record { lo = R (shr_z (R l) (2 ^ 26)); hi = R (pos 0 -ℤ R (shr_z (R q) (2 ^ 26))) })
      product_returns =
          law a b c d _ f (around g) (around h) (floor_z (lowest_z (mirrored c) d) (2 ^ 26))
          (rw lower (floor_parts (lowest_z c d) (2 ^ 26) (omega arith))) (floor_parts (lowest_z (mirrored c) d) (2 ^ 26) (omega arith))
          (upper.read ∙ ap (λ (z : ℤ). neg_ℤ (floor_z z (2 ^ 26))) same)
