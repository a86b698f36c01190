-- Where a case that passed tests 1 to 6 may be asked for its overpressure. Assumes nothing.
use Rattle.std.specs.Prelude.{ℕ, ◌≤◌}
use Rattle.std.proofs.Common.{arith}
use Rattle.guidance.specs.declared.Case.{Case}
use Rattle.guidance.specs.Cases.{Air, Accepted}
use Rattle.guidance.specs.CloudWords.{Heated}
use Rattle.guidance.proofs.laws.Domain.{accepted}
use Rattle.receptor.specs.Receptor.{moved, farthest}
use Rattle.receptor.specs.laws.Moved.{heated_moved, within_nearer, never_beyond}
use Rattle.receptor.specs.laws.Reach.{farthest_reached}
use Rattle.ring.specs.Searching.{Standing}

pub standing_accepted : {air : ℕ} {c : Case} {d : ℕ} → Standing air c d → Accepted air (moved c d)
standing_accepted s = accepted (heated_moved s.heated s.permitted) s.within

-- nearer, it still stands
pub standing_nearer : {air : ℕ} {c : Case} {d e : ℕ} → Standing air c e → 1 ≤ d → d ≤ e → Standing air c d
standing_nearer {air} {c} s l h =
    record {
      heated = s.heated;
      pressure = s.pressure;
      permitted = record { least = l; most = omega (arith, s.permitted.most, h) };
      within = within_nearer c air h s.within;
    }

-- it stands at 1 cm and at the farthest distance
module _ {air : ℕ} {c : Case} (h : Heated c) (a : Air air) where
  pub standing_first : Standing air c 1
  standing_first = record { heated = h; pressure = a; permitted = record { least = omega arith; most = omega arith }; within = never_beyond c air h a }

  pub standing_last : Standing air c (farthest air c)
  standing_last =
      let r = farthest_reached air c h a in
      record { heated = h; pressure = a; permitted = record { least = r.least; most = r.most }; within = r.within }
