-- What is decided over two intervals fits, and so does what range 1 has. Assumes nothing.
use Rattle.std.specs.Prelude.{ℕ, ◌≡◌, refl, Bool, true, false}
use Rattle.std.proofs.Common.{sym, subst, ap, ◌∙◌, arith}
use Rattle.exact.specs.Formula.{Formula}
use Rattle.span.specs.declared.Span.{Span}
use Rattle.span.specs.Spans.{below}
use Rattle.span.specs.Enclosing.{Encloses, below_smaller}
use Rattle.span.specs.Wholes.{wholes_overlap}
use Rattle.enclosure.specs.Promises.{enough}
use Rattle.guidance.specs.declared.Case.{Case}
use Rattle.guidance.specs.Clouds.{deflagrates}
use Rattle.guidance.specs.Distances.{nearer, cube034}
use Rattle.guidance.specs.Waves.{near_field}
use Rattle.layout.specs.declared.Interval.{Interval}
use Rattle.blast.specs.Promises.{PressureSpan, ImpulseSpan, Rounded}
use Rattle.blast.proofs.Ending.{pressure_ended, impulse_ended}
use Rattle.blast.specs.WaveEnds.{WaveEnds}
use Rattle.blast.proofs.Ending.{wave_ends}
use Rattle.rules.specs.declared.Rule.{Rule}
use Rattle.rules.specs.declared.Rule.TheVariants.{NearField, Detonation, Deflagration, DeflagrationAt034, Undecided}
use Rattle.rules.specs.Rules.{detonation_rule, Fits, Gave}
use Rattle.rules.specs.Deciding.{deflagration_rule, Decided}

-- by the two tests

module _ (f d : Span) {r : Rule} where
  pub by_deflagration : (under near : Bool) → below f d ≡ true → r ≡ deflagration_rule under → Decided f d under near r
  by_deflagration true near b e = subst (λ (q : Rule). Decided f d true near q) (sym e) (b, refl)
  by_deflagration false near b e = subst (λ (q : Rule). Decided f d false near q) (sym e) (b, refl)

  pub by_detonation : (under near : Bool) → below d f ≡ true → r ≡ detonation_rule near → Decided f d under near r
  by_detonation under true b e = subst (λ (q : Rule). Decided f d under true q) (sym e) (b, refl)
  by_detonation under false b e = subst (λ (q : Rule). Decided f d under false q) (sym e) (b, refl)

-- an interval around a figure, and the whole numbers around the interval
record Figure (x : Formula) (s : Span) : Type 0 where
  encloses : Encloses s x enough
  ends : (e : Interval ℕ) → Rounded s e → WaveEnds x e

pressure_figure : {x : Formula} {s : Span} → PressureSpan x s → Figure x s
pressure_figure p = record { encloses = p.value.encloses enough (omega arith); ends = λ e r. wave_ends (pressure_ended p r) }

impulse_figure : {x : Formula} {s : Span} → ImpulseSpan x s → Figure x s
impulse_figure p = record { encloses = p.value.encloses enough (omega arith); ends = λ e r. wave_ends (impulse_ended p r) }

module _ (air : ℕ) (c : Case) {x y : Formula} {f d : Span} (h : Figure x f) (k : Figure y d) {under near : Bool} (u : under ≡ nearer cube034 air c) (v : near ≡ near_field air c) where
  decided_fits : (r : Rule) → Decided f d under near r → Fits air c x y r
  decided_fits NearField q = (sym v ∙ q.1, below_smaller {n = enough} (omega arith) q.0 k.encloses h.encloses)
  decided_fits Detonation q = (sym v ∙ q.1, below_smaller {n = enough} (omega arith) q.0 k.encloses h.encloses)
  decided_fits Deflagration q = (sym u ∙ q.1, below_smaller {n = enough} (omega arith) q.0 h.encloses k.encloses)
  decided_fits DeflagrationAt034 q = (sym u ∙ q.1, below_smaller {n = enough} (omega arith) q.0 h.encloses k.encloses)
  decided_fits (Undecided a b) q =
      record {
        first = h.ends a q.2;
        second = k.ends b q.3;
        first_reaches = wholes_overlap q.0 q.2.upper q.3.lower;
        second_reaches = wholes_overlap q.1 q.3.upper q.2.lower;
      }

  gave : deflagrates c ≡ true → (r : Rule) → Decided f d under near r → Gave (deflagrates c) air c x y r
  gave b r q = subst (λ (t : Bool). Gave t air c x y r) (sym b) (decided_fits r q)

-- ranges 2 to 6

module _ (air : ℕ) (c : Case) {x y : Formula} {f d : Span} {under near : Bool} (u : under ≡ nearer cube034 air c) (v : near ≡ near_field air c) (b : deflagrates c ≡ true) (r : Rule) where
  pub pressure_gave : PressureSpan x f → PressureSpan y d → Decided f d under near r → Gave (deflagrates c) air c x y r
  pressure_gave h k = gave air c (pressure_figure h) (pressure_figure k) u v b r

  pub impulse_gave : ImpulseSpan x f → ImpulseSpan y d → Decided f d under near r → Gave (deflagrates c) air c x y r
  impulse_gave h k = gave air c (impulse_figure h) (impulse_figure k) u v b r

-- range 1
pub detonation_gave : (air : ℕ) (c : Case) (x y : Formula) {near : Bool} {r : Rule} → deflagrates c ≡ false → near ≡ near_field air c → r ≡ detonation_rule near
    → Gave (deflagrates c) air c x y r
detonation_gave air c x y {near} {r} b v e = subst (λ (t : Bool). Gave t air c x y r) (sym b) (e ∙ ap detonation_rule v)
