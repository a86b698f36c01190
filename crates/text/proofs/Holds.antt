-- Characters held behind those that are, as far as there is room. Assumes nothing.
use Prim.Native.Nat.{ℕ, ◌+◌, ◌-◌, ◌≤◌, min}
use mathlib.Core.Path.{◌≡◌, sym, ap, ◌∙◌}
use mathlib.Core.List.{List, ◌++◌}
use native.Mathlib.Omega.{arith}
use lib.ListN.{length, take}
use lib.Seq.{take-append-add, length-take-le}
use borrow.Rule.Slice.PartMut.{put_mid}
use Rattle.std.proofs.lemmas.List.{take_min}
use Rattle.std.proofs.lemmas.Slice.{take-put_mid}
use Rattle.text.specs.declared.Stream.{Stream}

pub held_line
    : (s : Stream) (chars new : List ℕ) {n : ℕ} →
    n ≡ min (49 - s.held) (length chars) →
    new ≡ take n chars →
    take (s.held + n) (put_mid s.held (s.held + n - s.held) s.line new) ≡ take 49 (take s.held s.line ++ chars)
held_line s chars new {n} e w =
    let inside : s.held ≤ length s.line = omega (arith, s.size, s.within) in
    let size : length (take s.held s.line) ≡ s.held = length-take-le s.held s.line inside in
    let long : length new ≡ n = ap length w ∙ length-take-le n chars (omega arith) in
    let whole : length (take s.held s.line) + (49 - s.held) ≡ 49 = omega (arith, size, s.within) in
    take-put_mid s.held (s.held + n - s.held) s.line new (s.held + n) (omega arith) inside
    ∙ rw (w, e, take_min (49 - s.held) chars)
    (sym (rw whole at (take-append-add (take s.held s.line) chars (49 - s.held))))
