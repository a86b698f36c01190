-- THE CLOSING THEOREM: a formula that has a bracket at some N from 1 has narrower and narrower ones, from every place on. Assumes nothing.
use Prim.Native.Nat.{ℕ, suc, ◌+◌, ◌*◌, ◌≤◌}
use Rattle.std.specs.Prelude.{◌≡◌, refl}
use Rattle.std.proofs.Common.{sym, subst, mul-le-mul_right, arith}
use Rattle.std.proofs.Math.Option.{Option, none, some}
use Rattle.std.proofs.Math.Decide.{dec_le}
use Rattle.exact.specs.Fraction.{Ratio, ◌≼◌, whole, ◌⊕◌, ◌⊗◌, power, Frac, ◌⊑◌, one_f, of_ratio, neg, ◌⊞◌, ◌⊟◌, ◌⊠◌}
use Rattle.exact.specs.Bracket.{Bracket, over_pairs}
use Rattle.exact.specs.Series.{one_over}
use Rattle.exact.specs.Formula.{Formula, const, add, sub, mul, div, least, ln, exp, bracket_at, lift, ◌>>◌, quotient_b, ln_b, exp_b}
use Rattle.exact.specs.Exact.{HasBracket, Closes}
use Rattle.exact.proofs.laws.Frac.{⊑_refl}
use Rattle.exact.proofs.laws.Later.{There, both_there, first_there, bounded_at, divisor_of, argument_of, later, bounded_inherited, divisor_inherited, narrow_inherited}
use Rattle.exact.proofs.laws.Meeting.{Meets, meeting}
use Rattle.exact.proofs.laws.Narrowing.{All, Narrow, narrow_wider, BoundedEnds, Slim, pairs_narrow_of, Divisor, quotient_narrow_of}
use Rattle.exact.proofs.laws.NarrowingLnExp.{ln_narrow_of, exp_narrow_of}
use Rattle.exact.proofs.laws.Nearness.{Upto, at_most, Lipschitz, sum_lipschitz, difference_lipschitz, smaller_lipschitz, product_lipschitz}
use Rattle.exact.proofs.laws.Power.{half_times, remainder}
use Rattle.exact.proofs.laws.Ratio.{to≼, ≼_refl, ≼_trans, ⊕-mono, ⊗_mono, ⊗_comm}
use Rattle.exact.specs.laws.Width.{half}
use Rattle.exact.proofs.laws.Width.{ninth}

-- Widths that come to 1/(k + 1)

unfoldable part : ℕ → Ratio
part k = one_over (suc k) (omega arith)

halves : (k : ℕ) → part (suc (2 * k)) ⊕ part (suc (2 * k)) ≼ part k
unfolding part one_over ◌⊕◌
halves k = omega arith

share : (S k : ℕ) → whole S ⊗ part (S * suc k) ≼ part k
unfolding part one_over whole ◌⊗◌
share S k = omega arith

-- (n + 1) x ≤ 1
below_part : (n : ℕ) (x : Ratio) → whole (suc n) ⊗ x ≼ whole 1 → x ≼ part n
unfolding part one_over whole ◌⊗◌
below_part n x h = omega arith

half_part : (n : ℕ) → power half (suc n) ≼ part n
half_part n = below_part n _ (half_times (suc n))

share_twice : (a b k : ℕ) → whole a ⊗ (whole b ⊗ part (b * suc (a * suc k))) ≼ part k
share_twice a b k = ≼_trans (⊗_mono (≼_refl (whole a)) (share b (a * suc k))) (share a k)

for_ln : (R T k n : ℕ) → T ≤ n → suc (suc (2 * k)) ≤ n → part (R * suc (suc (2 * k))) ⊗ whole R ⊕ whole T ⊗ power ninth n ≼ part k
for_ln R T k n l m =
    ≼_trans
    (⊕-mono (≼_trans (to≼ (⊗_comm _ (whole R))) (share R (suc (2 * k)))) (≼_trans (remainder T (suc (suc (2 * k))) n l m) (half_part (suc (2 * k)))))
    (halves k)

for_exp : (U k : ℕ) → whole U ⊗ (whole 3 ⊗ power half (suc (3 * suc (U * suc (suc (2 * k)))))) ⊕ whole U ⊗ part (U * suc (suc (2 * k))) ≼ part k
for_exp U k =
    ≼_trans
    (⊕-mono (≼_trans (⊗_mono (≼_refl (whole U)) (⊗_mono (≼_refl (whole 3)) (half_part _))) (share_twice U 3 (suc (2 * k)))) (share U (suc (2 * k))))
    (halves k)

-- What the induction goes over

slim : (M : ℕ) (ε : Ratio) (x : Option Bracket) → Meets x x → All (Narrow ε) x → All (BoundedEnds M) x → All (Slim M ε) x
slim M ε none v h b = h
slim M ε (some A) v h b = record { apart = record { above = at_most v; below = h.width }; bounded = b }

-- from m on the row has a bracket at most 1/(k + 1) wide
record Closed (r : ℕ → Option Bracket) (m k : ℕ) : Type 0 where
  place : ℕ
  later : m ≤ place
  narrow : All (Narrow (part k)) (r place)

slim_later : (x : Formula) (m : ℕ) → 1 ≤ m → (M k n : ℕ) → All (BoundedEnds M) (bracket_at x m) → (c : Closed (bracket_at x) m k) → c.place ≤ n
    → All (Slim M (part k)) (bracket_at x n)
slim_later x m o M k n b c l =
    let i : m ≤ c.place = c.later in
    slim M (part k) (bracket_at x n) (meeting x n n)
    (later (Narrow (part k)) (narrow_inherited (part k)) x c.place n (omega arith) l c.narrow)
    (later (BoundedEnds M) (bounded_inherited M) x m n o (omega arith) b)

-- Operation by operation

module _ (x y : Formula) (m : ℕ) (o : 1 ≤ m) (c : (k : ℕ) → Closed (bracket_at x) m k) (d : (k : ℕ) → Closed (bracket_at y) m k) (s : There (bracket_at x m)) (t : There (bracket_at y m)) where
  pairs_close : {op : Frac → Frac → Frac} {S : ℕ → ℕ → ℕ} → Lipschitz op S → (k : ℕ) → Closed (λ n. lift (over_pairs op) (bracket_at x n) (bracket_at y n)) m k
  pairs_close {op} {S} L k =
      let M = bounded_at (bracket_at x m) s in
      let N = bounded_at (bracket_at y m) t in
      let j : ℕ = S M.0 N.0 * suc k in
      let f = c j in
      let g = d j in
      let n : ℕ = f.place + g.place in
      record {
        place = n;
        later = omega (arith, f.later);
        narrow =
            narrow_wider (lift (over_pairs op) (bracket_at x n) (bracket_at y n)) (share _ k)
            (pairs_narrow_of L M.0 N.0 (part j) (bracket_at x n) (bracket_at y n)
            (slim_later x m o M.0 j n M.1 f (omega arith)) (slim_later y m o N.0 j n N.1 g (omega arith)));
      }

  quotients_close : (R : ℕ) → All (Divisor R) (bracket_at y m) → (k : ℕ) → Closed (λ n. bracket_at x n >> (λ A. bracket_at y n >> quotient_b A)) m k
  quotients_close R e k =
      let M = bounded_at (bracket_at x m) s in
      let N = bounded_at (bracket_at y m) t in
      let j : ℕ = suc (R * R) * suc ((R + M.0) * suc k) in
      let f = c j in
      let g = d j in
      let n : ℕ = f.place + g.place in
      record {
        place = n;
        later = omega (arith, f.later);
        narrow =
            narrow_wider (bracket_at x n >> (λ A. bracket_at y n >> quotient_b A)) (share_twice (R + M.0) (suc (R * R)) k)
            (quotient_narrow_of M.0 N.0 R (part j) (bracket_at x n) (bracket_at y n)
            (slim_later x m o M.0 j n M.1 f (omega arith)) (slim_later y m o N.0 j n N.1 g (omega arith))
            (later (Divisor R) (divisor_inherited R) y m n o (omega (arith, f.later)) e));
      }

module _ (x : Formula) (m : ℕ) (o : 1 ≤ m) (c : (k : ℕ) → Closed (bracket_at x) m k) (s : There (bracket_at x m)) where
  ln_closes : (R : ℕ) → All (Divisor R) (bracket_at x m) → (k : ℕ) → Closed (λ n. bracket_at x n >> ln_b n) m k
  ln_closes R e k =
      let M = bounded_at (bracket_at x m) s in
      let T : ℕ = 2 * suc (M.0 + R) in
      let j : ℕ = R * suc (suc (2 * k)) in
      let f = c j in
      let n : ℕ = f.place + (T + suc (suc (2 * k))) in
      record {
        place = n;
        later = omega (arith, f.later);
        narrow =
            narrow_wider (bracket_at x n >> ln_b n) (for_ln R T k n (omega arith) (omega arith))
            (ln_narrow_of M.0 R (part j) (bracket_at x n) (meeting x n n) (slim_later x m o M.0 j n M.1 f (omega arith))
            (later (Divisor R) (divisor_inherited R) x m n o (omega (arith, f.later)) e) n);
      }

  exp_closes : There (bracket_at (exp x) m) → (k : ℕ) → Closed (bracket_at (exp x)) m k
  unfolding bracket_at
  exp_closes t k =
      let C = bounded_at (bracket_at x m) s in
      let U = bounded_at (bracket_at (exp x) m) t in
      let K : ℕ = suc (3 * suc (U.0 * suc (suc (2 * k)))) in
      let j : ℕ = U.0 * suc (suc (2 * k)) in
      let f = c j in
      let n : ℕ = f.place + suc (2 * C.0 + K) in
      record {
        place = n;
        later = omega (arith, f.later);
        narrow =
            narrow_wider (bracket_at (exp x) n) (for_exp U.0 k)
            (exp_narrow_of C.0 U.0 K n (part j) (bracket_at x n) (omega arith) (meeting x n n) (slim_later x m o C.0 j n C.1 f (omega arith))
            (later (BoundedEnds U.0) (bounded_inherited U.0) (exp x) m n o (omega (arith, f.later)) U.1));
      }

-- by induction over formulas
narrower : (x : Formula) (m : ℕ) → 1 ≤ m → There (bracket_at x m) → (k : ℕ) → Closed (bracket_at x) m k
unfolding bracket_at
narrower (const c) m o t = λ k. record { place = m; later = omega arith; narrow = record { width = at_most (⊑_refl c) } }
narrower (add x y) m o t =
    let p = both_there _ (bracket_at x m) (bracket_at y m) t in
    pairs_close x y m o (narrower x m o p.0) (narrower y m o p.1) p.0 p.1 sum_lipschitz
narrower (sub x y) m o t =
    let p = both_there _ (bracket_at x m) (bracket_at y m) t in
    pairs_close x y m o (narrower x m o p.0) (narrower y m o p.1) p.0 p.1 difference_lipschitz
narrower (mul x y) m o t =
    let p = both_there _ (bracket_at x m) (bracket_at y m) t in
    pairs_close x y m o (narrower x m o p.0) (narrower y m o p.1) p.0 p.1 product_lipschitz
narrower (least x y) m o t =
    let p = both_there _ (bracket_at x m) (bracket_at y m) t in
    pairs_close x y m o (narrower x m o p.0) (narrower y m o p.1) p.0 p.1 smaller_lipschitz
narrower (div x y) m o t =
    let p = divisor_of (bracket_at x m) (bracket_at y m) (meeting y m m) t in
    quotients_close x y m o (narrower x m o p.0) (narrower y m o p.1) p.0 p.1 p.2.0 p.2.1
narrower (ln x) m o t =
    let p = first_there (ln_b m) (bracket_at x m) t in
    let d = argument_of m (bracket_at x m) (meeting x m m) t in
    ln_closes x m o (narrower x m o p) p d.0 d.1
narrower (exp x) m o t = let p = first_there (exp_b m) (bracket_at x m) t in exp_closes x m o (narrower x m o p) p t

-- The theorem

found : (P : Bracket → Type 0) (x : Option Bracket) → All P x → (A : Bracket) × (x ≡ some A) × P A
found P none h = absurd h
found P (some A) h = (A, refl, h)

less_often : (k P Q D : ℕ) → suc k * P ≤ suc k * Q + D → k * P ≤ k * Q + D
less_often k P Q D h = go (dec_le P Q)
  where
    go : Dec (P ≤ Q) → k * P ≤ k * Q + D
    go (yes l) = omega (arith, mul-le-mul_right k l)
    go (no l) = omega arith

times_width : (x y : Frac) (k : ℕ) → Upto x y (part k) → of_ratio (whole k) ⊠ (x ⊟ y) ⊑ one_f
unfolding part one_over whole of_ratio one_f neg ◌⊞◌ ◌⊟◌ ◌⊠◌
times_width x y k h =
    omega (
      arith,
      less_often k (x.plus * y.den + y.minus * x.den) (y.plus * x.den + x.minus * y.den) (x.den * y.den) (omega (arith, h.up.cross)),
    )

pub closing : {x : Formula} → HasBracket x → Closes x
closing {x} h =
    record {
      narrow = λ m k.
          let n : ℕ = h.place + m in
          let o : 1 ≤ h.place = h.from_one in
          let t = later (λ A. Unit {0}) (λ A B i v p. tt) x h.place n o (omega arith) (subst There (sym h.is) tt) in
          let c = narrower x n (omega arith) t k in
          let f = found (Narrow (part k)) (bracket_at x c.place) c.narrow in
          let l : n ≤ c.place = c.later in (
            record { place = c.place; from_one = omega arith; bracket = f.0; is = f.1 },
            omega arith,
            times_width f.0.hi f.0.lo k f.2.width,
          );
    }
