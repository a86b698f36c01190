-- Equality of value, `≈`, as an equivalence that sums and products keep. Assumes nothing.
use Rattle.std.specs.Prelude.{◌*◌}
use Rattle.std.proofs.Common.{mul-pos, le_of_mul-le-mul_right, arith}
use Rattle.exact.specs.Fraction.{Ratio, ◌≼◌, ◌≈◌, Above0, ◌⊕◌, ◌⊗◌}
use Rattle.exact.proofs.laws.Ratio.{≼_trans, to≼, from≼, ⊕-mono, ⊗_mono, ⊗_comm}

pub both≼ : {x y : Ratio} → x ≼ y → y ≼ x → x ≈ y
both≼ h k = omega arith

pub ≈-refl : (x : Ratio) → x ≈ x
≈-refl x = omega arith

pub ≈-sym : {x y : Ratio} → x ≈ y → y ≈ x
≈-sym h = omega arith

pub ≈-trans : {x y z : Ratio} → x ≈ y → y ≈ z → x ≈ z
≈-trans h k = both≼ (≼_trans (to≼ h) (to≼ k)) (≼_trans (from≼ k) (from≼ h))

pub ⊕-cong : {a b c d : Ratio} → a ≈ b → c ≈ d → a ⊕ c ≈ b ⊕ d
⊕-cong h k = both≼ (⊕-mono (to≼ h) (to≼ k)) (⊕-mono (from≼ h) (from≼ k))

pub ⊗_cong : {a b c d : Ratio} → a ≈ b → c ≈ d → a ⊗ c ≈ b ⊗ d
⊗_cong h k = both≼ (⊗_mono (to≼ h) (to≼ k)) (⊗_mono (from≼ h) (from≼ k))

-- a factor above 0 cancels
pub ⊗_cancel : {x y : Ratio} (z : Ratio) → Above0 z → z ⊗ x ≼ z ⊗ y → x ≼ y
unfolding ◌⊗◌
⊗_cancel {x} {y} z h l =
    record {
      cross = le_of_mul-le-mul_right {k = z.num * z.den} (omega (arith, l.cross)) (mul-pos h.above z.positive);
    }

pub ≈-cancel : {x y : Ratio} (z : Ratio) → Above0 z → z ⊗ x ≈ z ⊗ y → x ≈ y
≈-cancel z h e = both≼ (⊗_cancel z h (to≼ e)) (⊗_cancel z h (from≼ e))

pub ⊗_cancel_right : {x y : Ratio} (z : Ratio) → Above0 z → x ⊗ z ≼ y ⊗ z → x ≼ y
⊗_cancel_right {x} {y} z h l = ⊗_cancel z h (≼_trans (to≼ (⊗_comm z x)) (≼_trans l (to≼ (⊗_comm y z))))
