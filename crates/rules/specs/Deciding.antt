-- What the private functions ask and promise.
use Rattle.std.specs.Prelude.{◌≡◌, Bool, true, false, cond, Ok}
use Rattle.span.specs.declared.Span.{Span}
use Rattle.span.specs.Spans.{below}
use Rattle.guidance.specs.declared.Case.{Case}
use Rattle.guidance.specs.Cases as cases
use Rattle.guidance.specs.AirPressure.{air_of}
use Rattle.guidance.specs.Clouds.{deflagrates}
use Rattle.guidance.specs.Waves.{near_field}
use Rattle.frame.specs.Verdict.{Verdict}
use Rattle.blast.specs.declared.Explosion.{Explosion}
use Rattle.blast.specs.Promises.{Rounded}
use Rattle.rules.specs.declared.Rule.{Rule}
use Rattle.rules.specs.declared.Rule.TheVariants.{NearField, Detonation, Deflagration, DeflagrationAt034, Undecided}

abbrev pub deflagration_rule : (under : Bool) → Rule
deflagration_rule under = cond under DeflagrationAt034 Deflagration

-- by the interval f of the deflagration figure and d of the detonation figure
abbrev pub Decided : (f d : Span) (under near : Bool) → Rule → Type 0
Decided f d under near NearField = (below d f ≡ true) × (near ≡ true)
Decided f d under near Detonation = (below d f ≡ true) × (near ≡ false)
Decided f d under near Deflagration = (below f d ≡ true) × (under ≡ false)
Decided f d under near DeflagrationAt034 = (below f d ≡ true) × (under ≡ true)
Decided f d under near (Undecided a b) = (below f d ≡ false) × (below d f ≡ false) × Rounded f a × Rounded d b

-- an explosion of ranges 2 to 6, and whether it is in the near field
pub record Burning (x : Explosion) (near : Bool) : Type 0 where
  pub burns : deflagrates x.at.case ≡ true
  pub near_is : near ≡ near_field x.at.air x.at.case

-- a case that the verdict accepts is one
abbrev pub Acceptable : Verdict → Type 0
Acceptable v = (c : Case) → v ≡ Ok c → cases.Accepted (air_of c) c
