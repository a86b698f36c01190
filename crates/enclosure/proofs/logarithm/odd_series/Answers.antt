-- `enclosure::logarithm::odd_series` meets its contract. Assumes nothing.
use Rattle.std.proofs.Common.{◌≡◌, suc, ◌+◌, ◌-◌, ◌*◌, arith}
use Rattle.std.proofs.Math.Nat.{div-le_self}
use borrow.Author.Rules.{rules}
use Rattle.enclosure.proofs.OddSeries.{S, now, squares, product_small, last_small, first, again, finish}
use Rattle.enclosure.proofs.logarithm.odd_series.Goals as goal

pub overflow_mul-v : goal.overflow_mul-v
overflow_mul-v c =
    omega (arith, squares c.args.a c.args.b (search rules) (search rules))

pub loop-j-init : goal.loop-j-init
loop-j-init c =
    record { third = search rules; inv = λ z. first c.args.a c.args.b (search rules) z }

pub overflow_mul-h : goal.overflow_mul-h
overflow_mul-h c =
    let i = now c.loop-j.invariant in
    omega (arith, product_small _ _ i.v_fits i.h_fits)

pub overflow_add-h-in-loop-j : goal.overflow_add-h-in-loop-j
overflow_add-h-in-loop-j c =
    let i = now c.loop-j.invariant in
    omega (arith, product_small _ _ i.v_fits i.h_fits, div-le_self S (2 * (c.loop-j.j - 1) + 1))

pub loop-j-preserved : goal.loop-j-preserved
loop-j-preserved c =
    let i = c.loop-j.invariant in
    let back : c.loop-j.j ≡ suc (c.loop-j.j - 1) = omega (arith, c.loop-j-test.true) in
    record { third = i.third; inv = λ z. again _ _ _ _ _ _ (i.inv z) back }

pub overflow_mul-result : goal.overflow_mul-result
overflow_mul-result c =
    let i = now c.loop-j.invariant in
    omega (arith, last_small _ _ i.w_fits i.h_fits)

pub returns : goal.returns
returns c =
    let none : c.loop-j.j ≡ 0 = omega (arith, c.loop-j-test.false) in
    finish c.loop-j.invariant none
