-- Tests: one holds or fails, both parts of a conjunction that holds, and two comparisons that agree. Assumes nothing.
use Rattle.std.specs.Prelude.{ℕ, ◌≤◌, ◌<◌, ◌≡◌, refl, Bool, true, false, ◌&&◌, ltb}
use Rattle.std.proofs.Common.{sym, ◌∙◌, arith, lt-ltb, le-ltb}
use Rattle.std.proofs.lemmas.Bool.{false≢true}
use Rattle.std.proofs.Math.Decide.{dec_le}

pub settle : {P : Type 0} (t : Bool) → (t ≡ true → P) → (t ≡ false → P) → P
settle true held failed = held refl
settle false held failed = failed refl

pub both_true : (a b : Bool) → (a && b) ≡ true → (a ≡ true) × (b ≡ true)
both_true true b e = (refl, e)
both_true false b e = absurd (false≢true e)

pub ltb_same : {a b m n : ℕ} → (b ≤ a → n ≤ m) → (n ≤ m → b ≤ a) → ltb a b ≡ ltb m n
ltb_same {a} {b} {m} {n} f g = go (dec_le b a)
  where
    go : Dec (b ≤ a) → ltb a b ≡ ltb m n
    go (yes h) = le-ltb a b h ∙ sym (le-ltb m n (f h))
    go (no h) = lt-ltb a b (omega arith) ∙ sym (lt-ltb m n (above (dec_le n m)))
      where
        above : Dec (n ≤ m) → m < n
        above (yes k) = absurd (h (g k))
        above (no k) = omega arith
