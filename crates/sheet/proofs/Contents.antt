-- What a place holds, from the value or the vacancy that is made of it. Assumes nothing.
use mathlib.Core.Path.{◌≡◌, refl}
use Rattle.std.specs.Prelude.{Option, None, Some, Ok, Err}
use Rattle.std.specs.Option.{ok_or}

module _ {A E : Type 0} where
  pub taken : (o : Option A) (e : E) (x : A) → ok_or o e ≡ Ok x → o ≡ Some x
  taken None e x p = cc
  taken (Some y) e x p = cc

  pub hole : (o : Option A) (e y : E) → ok_or o e ≡ Err y → o ≡ None
  hole None e y p = refl
  hole (Some x) e y p = cc
