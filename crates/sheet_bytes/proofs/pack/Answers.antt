-- `sheet_bytes::pack` meets its contract: the first i places are written. Assumes nothing.
use Prim.Native.Nat.{◌+◌, ◌*◌, ◌-◌}
use native.Mathlib.Omega.{arith}
use Rattle.sheet_bytes.proofs.Turns.{pack_first, pack_again, pack_last}
use Rattle.sheet_bytes.proofs.pack.Goals as goal

pub loop-i-init : goal.loop-i-init
loop-i-init c =
    pack_first _ _ c.requires

pub loop-i-preserved : goal.loop-i-preserved
loop-i-preserved c =
    let i = c.loop-i.i in
    pack_again c.loop-i.invariant c.loop-i-test.true (32 * i + 32 - 32 * i) _ (omega arith) c.put_place.ensures

pub returns : goal.returns
returns c =
    pack_last c.loop-i.invariant c.loop-i-test.false
