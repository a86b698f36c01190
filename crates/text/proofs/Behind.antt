-- A text that a writer leaves in a part of an area, behind a text that is there. Assumes nothing.
use Prim.Native.Nat.{ℕ, ◌+◌, ◌-◌, ◌≤◌, ◌<◌}
use mathlib.Core.Path.{◌≡◌, refl, ◌∙◌}
use mathlib.Core.List.{List, [], ◌∷◌, ◌++◌}
use native.Mathlib.Omega.{arith}
use lib.ListN.{length, set}
use borrow.Rule.Slice.PartMut.{mid_of, put_mid}
use Rattle.text.specs.Writers.{over, Puts}
use Rattle.text.specs.laws.Writers.{over_store, over_part}
use Rattle.text.specs.laws.Tails.{part_to_end, put_to_end}

pub behind
    : (text more before whole part : List ℕ) (at : ℕ) →
    whole ≡ over text before →
    at ≡ length text →
    part ≡ over more (mid_of at (length whole - at) whole) →
    put_mid at (length whole - at) whole part ≡ over (text ++ more) before
behind text more before whole part at e size w =
    put_to_end at whole part ∙ rw (w, part_to_end at whole, e, size) (over_part text more before)

-- a byte, and a text behind it
pub tagged
    : (tag : ℕ) {more before part : List ℕ} {most r : ℕ} →
    0 < length before →
    Puts more most (mid_of 1 (length (set before 0 tag) - 1) (set before 0 tag)) part r →
    Puts (tag ∷ more) (1 + most) before (put_mid 1 (length (set before 0 tag) - 1) (set before 0 tag) part) (1 + r)
tagged tag {more} {before} {part} h p =
    record {
      size = omega (arith, p.size);
      short = omega (arith, p.short);
      bytes = behind (tag ∷ []) more before (set before 0 tag) part 1 (over_store [] before before 0 tag refl refl h) refl p.bytes;
    }

pub widened : {text before after : List ℕ} {most r : ℕ} (more : ℕ) → most ≤ more → Puts text most before after r → Puts text more before after r
widened more h p = record { size = p.size; short = omega (arith, p.short); bytes = p.bytes }
