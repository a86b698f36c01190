-- `columns::store` meets its contract: the number ahead, and the columns behind it. Assumes nothing.
use native.Mathlib.Omega.{arith}
use Rattle.columns.proofs.Writing.{store_short, store_written}
use Rattle.columns.proofs.store.Goals as goal

pub returns-then-area-size : goal.returns-then-area-size
returns-then-area-size c =
    store_short _ _ _ (omega (arith, c.if-area-size.true))

pub returns : goal.returns
returns c =
    store_written _ _ _ _ (omega (arith, c.if-area-size.false)) c.transpose.ensures
