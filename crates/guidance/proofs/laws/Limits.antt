-- Bounds of what is read from the tables and of the energy as words. Assumes nothing.
use Prim.Native.Nat.{ℕ, zero, suc, ◌+◌, ◌*◌, ◌-◌, ◌≤◌, ◌<◌}
use Rattle.std.specs.Prelude.{◌≡◌, refl, Bool, true, false, ◌&&◌, cond, leb, eqb, ltb, get_or}
use Rattle.std.proofs.Common.{sym, ◌∙◌, ap, leb→le, lit≤, ne_eqb, lt-ltb, le-ltb}
use Rattle.std.proofs.Math.Nat.{mul-le-mul, mul-pos}
use Rattle.std.proofs.Math.Decide.{dec_le}
use native.Mathlib.Omega.{arith}
use Rattle.std.proofs.Math.ListN.{get_or-eq_default}
use Rattle.std.proofs.lemmas.Bool.Decides.{nat_tests}
use Rattle.guidance.specs.declared.Case.{Case}
use Rattle.guidance.specs.Substances.{betas, beta_of, class_of, heat_of}
use Rattle.guidance.specs.declared.Cloud.{Cloud}
use Rattle.guidance.specs.Clouds.{range_of, deflagrates}
use Rattle.guidance.specs.Cases.{Fields}
use Rattle.guidance.specs.CloudWords.{joules_of, parts_of, CloudOf}
use Rattle.guidance.proofs.laws.Ranges.{at_least1, sixteen_places}
use Rattle.exact.proofs.laws.Tables.{both, at_entry}

-- Choices

pub cond_most : (t : Bool) (a b : ℕ) {n : ℕ} → a ≤ n → b ≤ n → cond t a b ≤ n
cond_most true a b h k = h
cond_most false a b h k = k

pub cond_least : (t : Bool) (a b : ℕ) {n : ℕ} → n ≤ a → n ≤ b → n ≤ cond t a b
cond_least true a b h k = h
cond_least false a b h k = k

-- Substances

small : ℕ → ℕ → Bool
small k x = leb x 273

pub beta_most : (s : ℕ) → beta_of s ≤ 273
unfolding betas beta_of small both
beta_most s = go (dec_le (suc s) 76)
  where
    go : Dec (s < 76) → get_or betas s 0 ≤ 273
    go (yes h) = leb→le _ 273 (at_entry small 0 betas tt s h)
    go (no h) = rw (get_or-eq_default betas 0 {n = s} (omega arith)) (omega arith)

pub heat_most : (s given : ℕ) → given ≤ 150000 → heat_of s given ≤ 150000
unfolding heat_of
heat_most s zero h = omega (arith, beta_most s)
heat_most s (suc given) h = h

pub class_least : (s : ℕ) → 1 ≤ class_of s
unfolding class_of
class_least s = cond_least (leb s 10) 1 _ (lit≤ tt) (cond_least (leb s 27) 2 _ (lit≤ tt) (cond_least (leb s 57) 3 4 (lit≤ tt) (lit≤ tt)))

pub class_most : (s : ℕ) → class_of s ≤ 4
unfolding class_of
class_most s = cond_most (leb s 10) 1 _ (lit≤ tt) (cond_most (leb s 27) 2 _ (lit≤ tt) (cond_most (leb s 57) 3 4 (lit≤ tt) (lit≤ tt)))

pub heat_given : (s given : ℕ) → 0 < given → given ≡ heat_of s given
unfolding heat_of
heat_given s zero h = absurd (omega arith)
heat_given s (suc given) h = refl

pub heat_table : (s : ℕ) {b : ℕ} (given : ℕ) → given ≤ 0 → b ≡ beta_of s → 440 * b ≡ heat_of s given
unfolding heat_of
heat_table s zero h e = ap (λ n. 440 * n) e
heat_table s (suc given) h e = absurd (omega arith)

-- no heat: none is given, and the substance has no β
pub heat_none : (s given : ℕ) → eqb (heat_of s given) 0 ≡ (eqb given 0 && eqb (beta_of s) 0)
unfolding heat_of
heat_none s zero = go (beta_of s)
  where
    go : (b : ℕ) → eqb (440 * b) 0 ≡ eqb b 0
    go zero = refl
    go (suc b) = ne_eqb (440 * suc b) 0 (λ e. omega arith) ∙ sym (ne_eqb (suc b) 0 (λ e. omega arith))
heat_none s (suc given) = rw (ne_eqb (suc given) 0 (λ e. omega arith)) refl

-- Range and energy

module _ (c : Case) (f : Fields c) where
  -- the range is what document 01's formula gives
  pub range_by_formula : range_of c ≡ at_least1 (class_of c.substance + c.surroundings - 2)
  unfolding range_of
  range_by_formula =
      sixteen_places (class_of c.substance) c.surroundings (class_least c.substance) (class_most c.substance)
      f.surroundings f.surroundings_most

  pub range_most : range_of c ≤ 6
  unfolding at_least1
  range_most = rw range_by_formula (go (class_of c.substance + c.surroundings - 2) (omega (arith, class_most c.substance, f.surroundings_most)))
    where
      go : (m : ℕ) → m ≤ 6 → at_least1 m ≤ 6
      go zero h = omega arith
      go (suc m) h = h

  pub released_most : c.mass * heat_of c.substance c.heat ≤ 150000000000000
  released_most = omega (arith, mul-le-mul f.mass_most (heat_most c.substance c.heat f.heat_most))

  abbrev ground : ℕ
  ground = cond (eqb c.placement 1) 2 1

  abbrev lean : ℕ
  lean = cond (ltb c.stoichiometric c.mean) c.stoichiometric 1

  ground_most : ground ≤ 2
  ground_most = cond_most (eqb c.placement 1) 2 1 (lit≤ tt) (lit≤ tt)

  lean_most : lean ≤ 50000
  lean_most = cond_most (ltb c.stoichiometric c.mean) c.stoichiometric 1 f.stoichiometric_most (lit≤ tt)

  pub placed_most : c.mass * heat_of c.substance c.heat * ground ≤ 300000000000000
  placed_most = omega (arith, mul-le-mul released_most ground_most)

  pub factors_most : c.mass * heat_of c.substance c.heat * ground * lean ≤ 15000000000000000000
  factors_most = omega (arith, mul-le-mul placed_most lean_most)

  pub joules_most : joules_of c ≤ 15000000000000000000
  unfolding joules_of
  joules_most = factors_most

  pub joules_least : 0 < heat_of c.substance c.heat → 1 ≤ joules_of c
  unfolding joules_of
  joules_least h = mul-pos (mul-pos (mul-pos f.mass h) (cond_least (eqb c.placement 1) 2 1 (lit≤ tt) (lit≤ tt))) (cond_least (ltb c.stoichiometric c.mean) c.stoichiometric 1 f.stoichiometric (lit≤ tt))

  pub parts_least : 0 < parts_of c
  unfolding parts_of
  parts_least = cond_least (ltb c.stoichiometric c.mean) c.mean 1 f.mean (lit≤ tt)

  pub parts_most : parts_of c ≤ 50000
  unfolding parts_of
  parts_most = cond_most (ltb c.stoichiometric c.mean) c.mean 1 f.mean_most (lit≤ tt)

-- Range 1 detonates, ranges 2 to 6 deflagrate

module _ {c : Case} {k : Cloud} (h : CloudOf c k) where
  pub detonates : k.range < 2 → deflagrates c ≡ false
  detonates l = le-ltb 1 (range_of c) (omega (arith, h.range, l))

  pub burns : 2 ≤ k.range → deflagrates c ≡ true
  burns l = lt-ltb 1 (range_of c) (omega (arith, h.range, l))

-- What heat and energy are worked by

pub ruleset heats = (beta_most, heat_given, heat_table)

pub ruleset energies = (nat_tests, released_most, placed_most)
