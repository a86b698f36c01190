-- `blast::Explosion::pascal_seconds` meets its contract. Assumes nothing.
use Rattle.waves.specs.Coefficients.{sound_speed_lem}
use Rattle.blast.proofs.Finals.{in_pascal_seconds_lem}
use Rattle.blast.proofs.Explosion.pascal_seconds.Goals as goal

pub returns : goal.returns
returns c =
    let h = c.requires in
    in_pascal_seconds_lem h.0 h.1 c.mul-share.ensures c.mul-all.ensures sound_speed_lem c.quo.ensures
