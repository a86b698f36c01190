-- What a place holds, read off the list of the places. Assumes nothing.
use Prim.Native.Nat.{ℕ, zero, suc, ◌-◌, ◌≤◌, ◌<◌}
use Rattle.std.proofs.Math.Path.{◌≡◌, sym, ap}
use Rattle.std.specs.Prelude.{refl, true, List, length, get_or, set, Option, None, Some}
use Rattle.std.proofs.lemmas.Option.{none-some}
use Rattle.std.proofs.Common.{◌∙◌, not-suc-le-zero}
use Rattle.std.proofs.lemmas.Bool.{false≢true}
use Rattle.std.proofs.Math.Decide.{dec_le}
use native.Mathlib.Omega.{arith}
use Rattle.std.proofs.Math.ListN.{get_or-eq_default}
use Rattle.places.specs.declared.Held.{Held}
use Rattle.places.specs.declared.Places.{Places}
use Rattle.places.specs.Holes.{vacant, trim, at, added, withdrawn}
use Rattle.places.specs.Places.{stands_for}
use Rattle.places.specs.laws.Trims.{get_d_trim, trim_set_hole, trim_set_next, length_trim}

pub vacant_none : {A : Type 0} (x : Option A) → vacant x ≡ true → x ≡ None
vacant_none None e = refl
vacant_none (Some a) e = absurd (false≢true e)

-- there is no place 0
pub at_none : {A : Type 0} (xs : List (Option A)) (k : ℕ) → k < 1 → at xs k ≡ None
unfolding at
at_none xs zero l = refl
at_none xs (suc i) l = absurd (omega arith)

-- what the list has at a place is what stands there
pub at_inside : (s : Places) (k : ℕ) → 1 ≤ k → at (stands_for s) k ≡ get_or s.all (k - 1) None
unfolding stands_for at
at_inside s k l = let e : k ≡ suc (k - 1) = omega arith in ap (at (trim s.all)) e ∙ get_d_trim s.all (k - 1)

module _ (s : Places) where
  pub sized : length s.all ≡ 64
  sized = s.whole

  pub stands_most : length (stands_for s) ≤ 64
  unfolding stands_for
  stands_most = omega (arith, length_trim s.all, s.whole)

  pub at_outside : (k : ℕ) → 64 < k → at (stands_for s) k ≡ None
  at_outside k l = at_inside s k (omega arith) ∙ get_or-eq_default s.all None (omega (arith, s.whole))

  -- a place that holds a case is one of the 64
  pub taken_inside : (k : ℕ) (c : Held) → at (stands_for s) k ≡ Some c → (1 ≤ k) × (k ≤ 64)
  unfolding at
  taken_inside zero c e = absurd (none-some c e)
  taken_inside (suc i) c e = (omega arith, go (dec_le (suc i) 64))
    where
      go : Dec (suc i ≤ 64) → suc i ≤ 64
      go (yes h) = h
      go (no h) = let z : ◌≡◌ {A = Option Held} None (Some c) = sym (at_outside (suc i) (omega arith)) ∙ e in absurd (none-some c z)

  -- a case stored right after the last one, and a hole stored
  module _ (t : Places) where
    pub stored_next
        : (n : ℕ) (c : Held) →
        n ≡ length (stands_for s) →
        n < 64 →
        t.all ≡ set s.all n (Some c) →
        stands_for t ≡ added (stands_for s) c
    unfolding stands_for added
    stored_next n c e l w = rw (w, e) (trim_set_next s.all c (omega (arith, s.whole)))

    pub stored_hole : (k : ℕ) → 1 ≤ k → t.all ≡ set s.all (k - 1) None → stands_for t ≡ withdrawn (stands_for s) k
    unfolding stands_for withdrawn
    stored_hole zero l w = absurd (not-suc-le-zero l)
    stored_hole (suc i) l w = let e : suc i - 1 ≡ i = omega arith in rw (rw e at w) (trim_set_hole s.all i)
