-- `sheet_bytes::unpack` meets its contract: each place holds what its 32 bytes say. Assumes nothing.
use Prim.Native.Nat.{ℕ}
use mathlib.Core.List.{List}
use denote.Ref.{Bor}
use mathlib.Core.Path.{ap, ◌∙◌}
use Rattle.std.specs.Prelude.{None}
use Rattle.sheet_bytes.proofs.Calls.{made_by, unpacked_made}
use Rattle.sheet_bytes.specs.Packing.{read_at}
use Rattle.sheet_bytes.proofs.unpack.Goals as goal

pub returns : goal.returns
returns c =
    let s = c.args.s.now in
    made_by _ _ (read_at s) (λ i y q k. (ap (λ (x : Bor (List ℕ)). record { 0 = x }) k.met.0, k.met.1)) _ 64 None c.from_fn-all.ensures.items ∙ unpacked_made 64 s
