-- `enclosure::ln` meets its contract: what is handed over fits a word. Assumes nothing.
use Rattle.std.proofs.Common.{arith}
use Rattle.signed.proofs.Back.{back}
use Rattle.enclosure.proofs.LnInterval.{word_fits, unbiased_fits, logarithm}
use Rattle.enclosure.proofs.ln.Goals as goal

pub overflow_sub-h : goal.overflow_sub-h
overflow_sub-h c =
    omega (arith, word_fits _ _ _ c.requires c.point-h.ensures c.slack-w.ensures)

pub unbiased-lo-requires : goal.unbiased-lo-requires
unbiased-lo-requires c =
    omega (arith, word_fits _ _ _ c.requires c.point-h.ensures c.slack-w.ensures)

pub unbiased-hi-requires : goal.unbiased-hi-requires
unbiased-hi-requires c =
    (word_fits _ _ _ c.requires c.point-h.ensures c.slack-w.ensures).1

pub returns : goal.returns
returns c =
    let k = word_fits _ _ _ c.requires c.point-h.ensures c.slack-w.ensures in
    let lo = c.unbiased-lo.ensures in
    let hi = c.unbiased-hi.ensures in
    rw (back c.unbiased-lo.result (unbiased_fits _ lo (omega (arith, k.1))), back c.unbiased-hi.result (unbiased_fits _ hi (omega (arith, k.1))))
    (logarithm _ _ _ _ _ _ c.requires c.point-h.ensures c.slack-w.ensures (omega (arith, k.0)) (omega arith) lo hi)
