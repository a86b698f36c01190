-- What is read back from a signed word's bits is the number itself, wherever it fits. Assumes nothing.
use Rattle.std.specs.Prelude.{◌≡◌, ◌^◌, ◌<◌, ℤ}
use Rattle.std.specs.Int.Signed.{mag}
use Rattle.std.specs.Int.{w64}
use Rattle.std.proofs.lemmas.Int.{to_z-of_z}
use Rattle.signed.specs.Reading.{R}

pub back : (z : ℤ) → mag z < 2 ^ 63 → R z ≡ z
back z h = to_z-of_z w64 z (record { sfits = h })
