-- `span::norm` meets its contract: the highest set bit of hi is bit k, and z zeros stand above it. Assumes nothing.
use mathlib.Core.Path.{◌≡◌, ap}
use Prim.Native.Nat.{ℕ, suc, ◌+◌, ◌*◌, ◌%◌, ◌-◌, ◌^◌, ◌≤◌, ◌<◌}
use native.Mathlib.Nat.{mod-eq_of_lt}
use native.Mathlib.Omega.{arith}
use lib.Count.{count_leading_zeros, leading_top}
use Rattle.span.specs.Rounding.{Cuttable, Roundable, Rounded}
use Rattle.span.proofs.Rounding.{exact}
use Rattle.span.proofs.norm.Goals as goal

record Top (hi z : ℕ) : Type 0 where
  k : ℕ
  sum : z + suc k ≡ 64
  least : 2 ^ k ≤ hi
  most : hi < 2 ^ suc k

top : (lo hi e : ℕ) → Roundable lo hi e → Top hi (count_leading_zeros 64 hi)
top lo hi e h = let t = leading_top 64 hi h.some (omega arith) in record { k = t.0; sum = t.1; least = t.2; most = t.3 }

shifted_up : (lo hi e : ℕ) → Roundable lo hi e → 33 ≤ count_leading_zeros 64 hi
    → Rounded lo hi e (record { lo = lo * 2 ^ (count_leading_zeros 64 hi - 33) % 2 ^ 64; hi = hi * 2 ^ (count_leading_zeros 64 hi - 33) % 2 ^ 64; e = e - (count_leading_zeros 64 hi - 33) })
shifted_up lo hi e h l =
    let t = top lo hi e h in
    let s = count_leading_zeros 64 hi - 33 in
    let r = exact lo hi e t.k h.ordered t.least t.most s (omega arith) (omega arith) in
    let low : lo * 2 ^ s % 2 ^ 64 ≡ lo * 2 ^ s = mod-eq_of_lt (omega (arith, r.normal)) in
    let high : hi * 2 ^ s % 2 ^ 64 ≡ hi * 2 ^ s = mod-eq_of_lt (omega (arith, r.normal)) in
    rw (low, high) r

-- z zeros stand above bit k = 63 - z = 30 + (33 - z)
cuttable : (lo hi e : ℕ) → Roundable lo hi e → count_leading_zeros 64 hi < 33 → Cuttable lo hi e (33 - count_leading_zeros 64 hi)
cuttable lo hi e h l =
    let t = top lo hi e h in
    let s = 33 - count_leading_zeros 64 hi in
    let low : t.k ≡ 30 + s = omega arith in
    let high : suc t.k ≡ 31 + s = omega arith in
    record {
      ordered = h.ordered;
      least = omega (arith, ap (λ (i : ℕ). 2 ^ i) low, t.least);
      most = omega (arith, ap (λ (i : ℕ). 2 ^ i) high, t.most);
      few = omega arith;
      room = h.most;
    }

pub cut-requires : goal.cut-requires
cut-requires c =
    cuttable _ _ _ c.requires c.if-zeros-ge33.false

pub returns-then-zeros-ge33 : goal.returns-then-zeros-ge33
returns-then-zeros-ge33 c =
    shifted_up _ _ _ c.requires c.if-zeros-ge33.true
