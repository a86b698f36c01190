-- Products of signed numbers by their parts: how large a product is, and how far apart two products are whose factors are near. Assumes nothing.
use mathlib.Core.Path.{◌≡◌}
use Prim.Native.Nat.{ℕ, ◌+◌, ◌-◌, ◌*◌, ◌≤◌}
use native.Mathlib.Nat.{mul-le-mul_left, mul-le-mul_right}
use native.Mathlib.Decide.{dec_le}
use native.Mathlib.Omega.{arith}

-- |x| ≤ m and |y| ≤ w give x y ≤ m w, for x = xu - xd and y = yu - yd
pub within : (xu xd yu yd m w : ℕ) → xu ≤ xd + m → xd ≤ xu + m → yu ≤ yd + w → yd ≤ yu + w → xu * yu + xd * yd ≤ xu * yd + xd * yu + m * w
within xu xd yu yd m w a b c d = go (dec_le xd xu)
  where
    above : (i : ℕ) → xu ≡ xd + i → i ≤ m → xu * yu + xd * yd ≤ xu * yd + xd * yu + m * w
    above i e l = rw e (omega (arith, mul-le-mul_left i c, mul-le-mul_right w l))

    below : (i : ℕ) → xd ≡ xu + i → i ≤ m → xu * yu + xd * yd ≤ xu * yd + xd * yu + m * w
    below i e l = rw e (omega (arith, mul-le-mul_left i d, mul-le-mul_right w l))

    go : Dec (xd ≤ xu) → xu * yu + xd * yd ≤ xu * yd + xd * yu + m * w
    go (yes l) = above (xu - xd) (omega arith) (omega arith)
    go (no l) = below (xd - xu) (omega arith) (omega arith)

-- x and X within m of 0 and within v of each other
pub record Close (m v xu xd Xu Xd : ℕ) : Type 0 where
  pub plus : xu ≤ xd + m
  pub minus : xd ≤ xu + m
  pub Plus : Xu ≤ Xd + m
  pub Minus : Xd ≤ Xu + m
  pub after : xu + Xd ≤ xd + Xu + v
  pub before : xd + Xu ≤ xu + Xd + v

-- x y ≤ X Y + m (v + w): x (y - Y) + (x - X) Y
pub spread : (m v w xu xd Xu Xd yu yd Yu Yd : ℕ) → Close m v xu xd Xu Xd → Close m w yu yd Yu Yd
    → xu * yu + xd * yd + (Xu * Yd + Xd * Yu) ≤ xu * yd + xd * yu + (Xu * Yu + Xd * Yd) + m * (v + w)
spread m v w xu xd Xu Xd yu yd Yu Yd h k =
    omega (
      arith,
      within xu xd (yu + Yd) (yd + Yu) m w h.plus h.minus (omega (arith, k.after)) (omega (arith, k.before)),
      within Yu Yd (xu + Xd) (xd + Xu) m v k.Plus k.Minus (omega (arith, h.after)) (omega (arith, h.before)),
    )
