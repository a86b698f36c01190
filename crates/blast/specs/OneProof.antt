-- An enclosure has one proof, as a fact that a struct keeps must. Assumes nothing.
use Rattle.std.proofs.Math.Option.{Option, none, some}
use Rattle.std.specs.Coded.{Unit-prop, le_prop}
use Rattle.exact.specs.Bracket.{Bracket}
use Rattle.exact.specs.Formula.{Formula}
use Rattle.exact.specs.laws.Containment.{Inside}
use Rattle.span.specs.declared.Span.{Span}
use Rattle.blast.specs.Windows.{Window}
use Rattle.blast.specs.Promises.{Enclosure}

inside_prop : (x i : Option Bracket) → IsProp (Inside x i)
inside_prop x none = Unit-prop
inside_prop none (some I) = Prim.hlevel
inside_prop (some A) (some I) = Prim.hlevel le_prop

pub enclosure_prop : (x : Formula) (w : Window) (s : Span) → IsProp (Enclosure x w s)
enclosure_prop x w s = Prim.hlevel (le_prop, inside_prop)
