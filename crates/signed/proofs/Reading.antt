-- A signed step read back from its bits, and what a word is after a test of its sign. Assumes nothing.
use Rattle.std.specs.Prelude.{◌≡◌, refl, true, false, ℕ, ◌^◌, ◌<◌, ℤ, pos, negsuc}
use Rattle.std.proofs.Common.{sym, ap, ◌∙◌, arith, le-leb}
use Rattle.std.proofs.lemmas.Bool.{false≢true}
use Rattle.std.specs.Int.Signed.{mag, le_z}
use Rattle.signed.specs.Reading.{R, Read}
use Rattle.signed.proofs.Back.{back}

-- what a signed step computed, read back from its bits
pub step : {e v : ℤ} → e ≡ v → mag v < 2 ^ 63 → R e ≡ v
step {v = v} p h = ap R p ∙ back v h

is_pos : (z : ℤ) → le_z (pos 0) z ≡ true → (a : ℕ) × (z ≡ pos a)
is_pos (pos a) h = (a, refl)
is_pos (negsuc a) h = absurd (false≢true h)

is_neg : (z : ℤ) → le_z (pos 0) z ≡ false → (a : ℕ) × (z ≡ negsuc a)
is_neg (pos a) h = absurd (false≢true (sym h ∙ le-leb 0 a (omega arith)))
is_neg (negsuc a) h = (a, refl)

pub as_pos : (x : ℤ) → mag x < 2 ^ 63 → le_z (pos 0) (R x) ≡ true → Read pos x
as_pos x h t = let p = is_pos _ t in record { a = p.0; same = sym (back x h) ∙ p.1; read = p.1 }

pub as_neg : (x : ℤ) → mag x < 2 ^ 63 → le_z (pos 0) (R x) ≡ false → Read negsuc x
as_neg x h t = let p = is_neg _ t in record { a = p.0; same = sym (back x h) ∙ p.1; read = p.1 }
