-- What stands for each figure that has an entry of its own: that of the case in its own air.
use Rattle.exact.specs.Formula.{Formula}
use Rattle.guidance.specs.declared.Case.{Case}
use Rattle.guidance.specs.AirPressure.{air_of}
use Rattle.guidance.specs.Waves.{overpressure, impulse}
use Rattle.linked.specs.declared.Figure.{Figure}
use Rattle.linked.specs.declared.Figure.TheVariants.{Overpressure, Impulse}

abbrev pub own_overpressure : Case → Formula
own_overpressure c = overpressure (air_of c) c

abbrev pub own_impulse : Case → Formula
own_impulse c = impulse (air_of c) c

abbrev pub figure_of : Figure → Case → Formula
figure_of Overpressure = own_overpressure
figure_of Impulse = own_impulse
