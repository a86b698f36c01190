-- The ring of a threshold, or the first test that applies.
use Rattle.std.specs.Prelude.{Result}
use Rattle.ring.specs.declared.Ring.{Ring}
use Rattle.ring.specs.declared.Refusal.{Refusal}

abbrev pub Answer : Type 0
Answer = Result Ring Refusal
