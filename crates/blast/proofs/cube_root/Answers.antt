-- `blast::cube_root` meets its contract. Assumes nothing.
use mathlib.Core.Path.{refl}
use Rattle.blast.proofs.Roots.{root_result}
use Rattle.blast.proofs.cube_root.Goals as goal

pub returns : goal.returns
returns c =
    root_result c.requires refl c.sixth_power.ensures
