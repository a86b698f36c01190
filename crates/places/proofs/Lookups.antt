-- What a place holds, from what the library's calls promise. Assumes nothing.
use Rattle.std.proofs.Common.{◌≡◌, refl, Option, Some, None}
use denote.Ref.{Bor}
use Rattle.std.specs.Option.{option_map, option_copied, option_flatten, unwrap_or}

pub read_through : {A : Type 0} (o : Option (Bor (Option A))) → option_flatten (option_copied o) ≡ unwrap_or (option_map (λ x. x.now) o) None
read_through None = refl
read_through (Some x) = refl
