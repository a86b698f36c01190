-- `enclosure::exponential::part` meets its contract. Assumes nothing.
use mathlib.Core.Path.{◌≡◌, refl}
use Prim.Native.Nat.{ℕ, ◌+◌, ◌*◌, ◌<◌}
use native.Mathlib.Omega.{arith}
use lib.ListN.{get_or}
use Rattle.exact.specs.Fraction.{whole}
use Rattle.span.specs.declared.Span.{Span}
use Rattle.span.specs.Spans.{Product}
use Rattle.enclosure.specs.ExpTables.{entry_of, sixteenth_table, small_table}
use Rattle.enclosure.specs.ExpSteps.{binary, ExpIn}
use Rattle.enclosure.proofs.Entries.{sixteenth_in, small_in}
use Rattle.enclosure.proofs.ExpProducts.{factors, product_in, two_digits, part_digits}
use Rattle.enclosure.proofs.exponential.part.Goals as goal

pub mul-d-requires : goal.mul-d-requires
unfolding sixteenth_table small_table
mul-d-requires c =
    factors (sixteenth_in c.entry-a.ensures (omega arith)) (small_in c.entry-b.ensures (omega arith)) (omega arith)

-- the two digits multiplied
digits : {a b r : Span} (d e : ℕ) → Product a b r → a ≡ get_or sixteenth_table d (entry_of 0 0) → b ≡ get_or small_table e (entry_of 0 0) → d < 16 → e < 16
    → ExpIn (whole 1) 400 4 997 (binary (16 * d + e) 8) r
digits d e p a b k l = product_in 400 4 997 p (sixteenth_in a k) (small_in b l) (two_digits d e) (omega arith) refl (omega arith)

pub mul-requires : goal.mul-requires
unfolding sixteenth_table small_table
mul-requires c =
    factors (digits _ _ c.mul-d.ensures c.entry-a.ensures c.entry-b.ensures (omega arith) (omega arith)) c.rest-c.ensures (omega arith)

pub returns : goal.returns
unfolding sixteenth_table small_table
returns c =
    let l = digits _ _ c.mul-d.ensures c.entry-a.ensures c.entry-b.ensures (omega arith) (omega arith) in
    product_in 403 18 999 c.mul.ensures l c.rest-c.ensures (part_digits _ _ _ _ (omega arith)) (omega arith) refl (omega arith)
