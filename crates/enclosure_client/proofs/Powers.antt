-- e^ of a point of fixed point, from the promise of the library. Assumes nothing.
use mathlib.Core.Path.{◌≡◌}
use Prim.Native.Nat.{ℕ, ◌+◌, ◌*◌, ◌^◌}
use native.Mathlib.Omega.{arith}
use Rattle.exact.proofs.laws.Inclusion.{const_inside}
use Rattle.exact.specs.Holding.{◌∈◌}
use Rattle.span.specs.declared.Span.{Span}
use Rattle.span.specs.Enclosing.{wider}
use Rattle.fixed.specs.declared.Log.{Log}
use Rattle.fixed.specs.Logs.{up, dn, fixed, bracket}
use Rattle.enclosure.specs.Promises.{Exponential}
use Rattle.enclosure.specs.Enclosing.{expo_encloses}
use Rattle.enclosure_client.specs.Known.{signed, Power}

module _ (a b : ℕ) (y : Log) (l : up y.lo + b * 2 ^ 30 ≡ dn y.lo + a * 2 ^ 30) (h : up y.hi + b * 2 ^ 30 ≡ dn y.hi + a * 2 ^ 30) where
  in_point : signed a b ∈ bracket y
  unfolding signed bracket fixed
  in_point = record { above = record { cross = omega arith }; below = record { cross = omega arith } }

  pub power : {r : Span} → Exponential y r → Power a b r
  power e =
      record {
        encloses = λ n k. expo_encloses e k (record { inside = const_inside (signed a b) n (bracket y) in_point });
        narrow = wider (omega arith) (e.width 0 (record { narrow = omega arith }));
      }
