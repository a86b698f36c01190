-- One choice of ends, a pair for each distance, from the pairs that the search found. Assumes nothing.
use Rattle.std.specs.Prelude.{ℕ, ◌+◌, ◌-◌, ◌≤◌, ◌<◌, ◌≡◌, refl, Bool, true, false, cond, eqb, leb}
use Rattle.std.proofs.Common.{sym, subst}
use Rattle.std.proofs.Math.Decide.{dec_le}
use native.Mathlib.Omega.{arith}
use borrow.Author.Tests.{eq-eqb, eqb-true, eqb-false, le-leb, lt-leb}
use Rattle.guidance.specs.declared.Case.{Case}
use Rattle.guidance.specs.Waves.{overpressure}
use Rattle.layout.specs.declared.Interval.{Interval}
use Rattle.blast.specs.WaveEnds.{WaveEnds}
use Rattle.blast.proofs.Ending.{wave_ends}
use Rattle.receptor.specs.Receptor.{moved, farthest}
use Rattle.ring.specs.declared.Side.{Side}
use Rattle.ring.specs.declared.Side.TheVariants.{Lower, Upper}
use Rattle.ring.specs.Ring.{IsWeak, IsStrong, IsRing}
use Rattle.ring.specs.Searching.{end_of, PressureAt, Reaches, Below}
use Rattle.ring.specs.laws.Sides.{in_order, both}

-- a pair that holds ΔP at d, and is as asked
pub record Pair (air : ℕ) (c : Case) (Good : Interval ℕ → Type 0) (d : ℕ) (e : Interval ℕ) : Type 0 where
  pub holds : WaveEnds (overpressure air (moved c d)) e
  pub good : Good e

module _ {air : ℕ} {c : Case} {Good : Interval ℕ → Type 0} where
  found : {d : ℕ} (p : PressureAt air c d) → Good p.ends → Pair air c Good d p.ends
  found p g = record { holds = wave_ends p.ended; good = g }

  found_at : {d n : ℕ} (p : PressureAt air c n) → Good p.ends → d ≡ n → Pair air c Good d p.ends
  found_at p g e = subst (λ (m : ℕ). Pair air c Good m p.ends) (sym e) (found p g)

  -- the one where d is n, else the other
  either : (d n : ℕ) (a b : Interval ℕ) → (d ≡ n → Pair air c Good d a) → Pair air c Good d b → Pair air c Good d (cond (eqb d n) a b)
  either d n a b f g = go (eqb d n) refl
    where
      go : (q : Bool) → eqb d n ≡ q → Pair air c Good d (cond q a b)
      go true e = f (eqb-true d n e)
      go false e = g

-- what is asked of a pair: its lower or its upper end reaches t, or is below it

abbrev Reaching : Side → (t : ℕ) → Interval ℕ → Type 0
Reaching side t e = t ≤ end_of side e

abbrev Under : Side → (t : ℕ) → Interval ℕ → Type 0
Under side t e = end_of side e < t

module _ {air : ℕ} {c : Case} {t : ℕ} where
  pub weak : Below Lower air c t 1 → IsWeak air c t
  weak b = record { ends = λ d. b.pressure.ends; at_first = wave_ends b.pressure.ended; below = b.below }

  -- where the farthest distance is 1 cm, the pair at 1 cm says both
  pub strong : Reaches Lower air c t 1 → Reaches Upper air c t (farthest air c) → IsStrong air c t
  strong r k =
      let last = at_last r k in
      record {
        ends = λ d. cond (eqb d 1) r.pressure.ends k.pressure.ends;
        at_first = wave_ends r.pressure.ended;
        at_last = last.holds;
        reaches = r.reaches;
        not-below = last.good;
      }
    where
      at_last : (r : Reaches Lower air c t 1) (k : Reaches Upper air c t (farthest air c))
          → Pair air c (Reaching Upper t) (farthest air c) (cond (eqb (farthest air c) 1) r.pressure.ends k.pressure.ends)
      at_last r k =
          either (farthest air c) 1 _ _ (found_at r.pressure (omega (arith, r.reaches, in_order r.pressure))) (found k.pressure k.reaches)

module _
    {air : ℕ} {c : Case} {t inner r : ℕ} (least : 1 ≤ inner) (order : inner ≤ r) (most : r < farthest air c)
    (a : Reaches Lower air c t inner) (f : Reaches Lower air c t 1)
    (q : Below Upper air c t (r + 1)) (l : Below Upper air c t (farthest air c))
    (b : Below Lower air c t (inner + 1)) (p : Reaches Upper air c t r) where
  -- the pair one cm farther than the inner distance, where that is also one cm nearer than the outer
  record Next (x : PressureAt air c (inner + 1)) : Type 0 where
    below : x.ends.lower < t
    reaches : r ≡ inner + 1 → t ≤ x.ends.upper

  next : (x : PressureAt air c (inner + 1)) × Next x
  next = go (eqb r (inner + 1)) refl
    where
      go : (z : Bool) → eqb r (inner + 1) ≡ z → (x : PressureAt air c (inner + 1)) × Next x
      go true e =
          let m = both b (subst (Reaches Upper air c t) (eqb-true r (inner + 1) e) p) in
          (m.0, record { below = m.1; reaches = λ k. m.2 })
      go false e = (b.pressure, record { below = b.below; reaches = λ k. absurd (eqb-false r (inner + 1) e k) })

  -- pairs that reach up to the inner distance, pairs that are below from the outer one on, and two between
  unfoldable ends : ℕ → Interval ℕ
  ends d =
      cond (leb d inner) (cond (eqb d inner) a.pressure.ends f.pressure.ends)
      (cond (leb d r) (cond (eqb d (inner + 1)) next.0.ends p.pressure.ends)
      (cond (eqb d (r + 1)) q.pressure.ends l.pressure.ends))

  near : (d : ℕ) → d ≤ inner → ends d ≡ cond (eqb d inner) a.pressure.ends f.pressure.ends
  unfolding ends
  near d h = simp (le-leb d inner h)

  between : (d : ℕ) → inner < d → d ≤ r → ends d ≡ cond (eqb d (inner + 1)) next.0.ends p.pressure.ends
  unfolding ends
  between d h k = simp (lt-leb d inner h, le-leb d r k)

  far : (d : ℕ) → r < d → ends d ≡ cond (eqb d (r + 1)) q.pressure.ends l.pressure.ends
  unfolding ends
  far d k = let h : inner < d = omega arith in simp (lt-leb d inner h, lt-leb d r k)

  at_first : Pair air c (Reaching Lower t) 1 (ends 1)
  at_first = rw (near 1 least) (either 1 inner _ _ (found_at a.pressure a.reaches) (found f.pressure f.reaches))

  at_last : Pair air c (Under Upper t) (farthest air c) (ends (farthest air c))
  at_last = rw (far (farthest air c) most) (either (farthest air c) (r + 1) _ _ (found_at q.pressure q.below) (found l.pressure l.below))

  at_inner : Pair air c (Reaching Lower t) inner (ends inner)
  at_inner = rw (near inner (omega arith), eq-eqb inner inner refl) (found a.pressure a.reaches)

  at_outer : Pair air c (Under Upper t) (r + 1) (ends (r + 1))
  at_outer = rw (far (r + 1) (omega arith), eq-eqb (r + 1) (r + 1) refl) (found q.pressure q.below)

  after_inner : Pair air c (Under Lower t) (inner + 1) (ends (inner + 1))
  after_inner = go (dec_le (inner + 1) r)
    where
      go : Dec (inner + 1 ≤ r) → Pair air c (Under Lower t) (inner + 1) (ends (inner + 1))
      go (yes h) = rw (between (inner + 1) (omega arith) h, eq-eqb (inner + 1) (inner + 1) refl) (found next.0 next.1.below)
      go (no h) =
          rw (far (inner + 1) (omega arith), eq-eqb (inner + 1) (r + 1) (omega arith))
          (found_at q.pressure (omega (arith, q.below, in_order q.pressure)) (omega arith))

  before_outer : Pair air c (Reaching Upper t) r (ends r)
  before_outer = go (dec_le r inner)
    where
      go : Dec (r ≤ inner) → Pair air c (Reaching Upper t) r (ends r)
      go (yes h) =
          rw (near r h, eq-eqb r inner (omega arith))
          (found_at a.pressure (omega (arith, a.reaches, in_order a.pressure)) (omega arith))
      go (no h) =
          rw (between r (omega arith) (omega arith))
          (either r (inner + 1) _ _ (λ e. found_at next.0 (next.1.reaches e) e) (found p.pressure p.reaches))

  pub ring : IsRing air c t inner (r + 1)
  ring =
      let back : r + 1 - 1 ≡ r = omega arith in
      record {
        ends = ends;
        least = least;
        order = omega arith;
        most = omega arith;
        at_first = at_first.holds;
        at_inner = at_inner.holds;
        after_inner = after_inner.holds;
        before_outer = rw back before_outer.holds;
        at_outer = at_outer.holds;
        at_last = at_last.holds;
        first_reaches = at_first.good;
        inner_reaches = at_inner.good;
        inner_next = after_inner.good;
        outer_previous = rw back before_outer.good;
        outer_below = at_outer.good;
        last_below = at_last.good;
      }
