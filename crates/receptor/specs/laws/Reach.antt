-- The farthest accepted distance by what holds of it. Assumes nothing.
use Rattle.std.specs.Prelude.{ℕ, zero, suc, ◌+◌, ◌≤◌, ◌≡◌, refl, Bool, true, false, cond}
use Rattle.std.proofs.Math.Decide.{dec_le}
use Rattle.std.proofs.Common.{arith}
use Rattle.guidance.specs.declared.Case.{Case}
use Rattle.guidance.specs.Distances.{farther, cube24}
use Rattle.guidance.specs.Cases.{Air}
use Rattle.guidance.specs.CloudWords.{Heated}
use Rattle.receptor.specs.Receptor.{moved, last_within, farthest}
use Rattle.receptor.specs.laws.Moved.{never_beyond}

-- Rx is at most 24 at d; it is above 24 from d on, up to m
abbrev pub Within : (air : ℕ) (c : Case) → ℕ → Type 0
Within air c d = farther cube24 air (moved c d) ≡ false

abbrev pub Beyond : (air : ℕ) (c : Case) (m : ℕ) → ℕ → Type 0
Beyond air c m d = (e : ℕ) → d ≤ e → e ≤ m → farther cube24 air (moved c e) ≡ true

pub last_is : (air : ℕ) (c : Case) (m d : ℕ) → d ≤ m → Within air c d → Beyond air c m (d + 1) → d ≡ last_within air c m
unfolding last_within
last_is air c zero d h w b = omega arith
last_is air c (suc m) d h w b = go (dec_le d m) (λ k. last_is air c m d k w (λ e f g. b e f (omega arith)))
  where
    go : Dec (d ≤ m) → (d ≤ m → d ≡ last_within air c m) → d ≡ cond (farther cube24 air (moved c (suc m))) (last_within air c m) (suc m)
    go (yes k) before = rw (b (suc m) (omega arith) (omega arith)) (before k)
    go (no k) before = let e : d ≡ suc m = omega arith in rw (rw e at w) e

-- what is known of it
pub record Reached (air : ℕ) (c : Case) (m d : ℕ) : Type 0 where
  pub least : 1 ≤ d
  pub most : d ≤ m
  pub within : Within air c d

one_more : (air : ℕ) (c : Case) (m d : ℕ) → Reached air c m d → (b : Bool) → farther cube24 air (moved c (suc m)) ≡ b → Reached air c (suc m) (cond b d (suc m))
one_more air c m d r true e = record { least = r.least; most = omega (arith, r.most); within = r.within }
one_more air c m d r false e = record { least = omega arith; most = omega arith; within = e }

reached : (air : ℕ) (c : Case) (m : ℕ) → Within air c 1 → Reached air c (suc m) (last_within air c (suc m))
unfolding last_within
reached air c zero w = rw w (record { least = omega arith; most = omega arith; within = w })
reached air c (suc m) w = one_more air c (suc m) (last_within air c (suc m)) (reached air c m w) (farther cube24 air (moved c (suc (suc m)))) refl

pub farthest_reached : (air : ℕ) (c : Case) → Heated c → Air air → Reached air c 1000000 (farthest air c)
farthest_reached air c h a = reached air c 999999 (never_beyond c air h a)
