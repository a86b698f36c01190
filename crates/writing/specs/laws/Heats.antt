-- A heat as it is spelled keeps the effective heat, which alone decides it. Assumes nothing.
use Prim.Native.Nat.{ℕ, zero, suc, ◌≤◌}
use Rattle.std.proofs.Math.Path.{◌≡◌, refl, sym}
use Rattle.std.proofs.Common.{ap, ◌∙◌, eq-eqb, eqb-true}
use Rattle.std.specs.Prelude.{Bool}
use Rattle.std.proofs.Math.Bool.{true, false, cond}
use native.Mathlib.Omega.{arith}
use Rattle.std.proofs.Math.Dec.{eqb}
use Rattle.guidance.specs.Substances.{heat_of}
use Rattle.writing.specs.Spelling.{spelled_heat}

module _ (substance : ℕ) where
  table_as_none : spelled_heat substance (heat_of substance 0) ≡ 0
  unfolding spelled_heat
  table_as_none = simp (eq-eqb (heat_of substance 0) (heat_of substance 0) refl)

  none_as_none : spelled_heat substance 0 ≡ 0
  unfolding spelled_heat
  none_as_none = go (eqb 0 (heat_of substance 0))
    where
      go : (b : Bool) → ◌≡◌ {A = ℕ} (cond b 0 0) 0
      go true = refl
      go false = refl

  -- it is decided by the effective heat
  pub by_heat : (given : ℕ) → spelled_heat substance given ≡ spelled_heat substance (heat_of substance given)
  unfolding heat_of
  by_heat zero = none_as_none ∙ sym table_as_none
  by_heat (suc given) = refl

  of_table : (given : ℕ) → given ≡ heat_of substance 0 → heat_of substance 0 ≡ heat_of substance given
  unfolding heat_of
  of_table zero e = refl
  of_table (suc given) e = sym e

  -- and keeps it
  pub keeps_heat : (given : ℕ) → heat_of substance (spelled_heat substance given) ≡ heat_of substance given
  unfolding spelled_heat
  keeps_heat given = go (eqb given (heat_of substance 0)) refl
    where
      go : (b : Bool) → eqb given (heat_of substance 0) ≡ b → heat_of substance (cond b 0 given) ≡ heat_of substance given
      go true e = of_table given (eqb-true given (heat_of substance 0) e)
      go false e = refl

  pub no_greater : (given : ℕ) → spelled_heat substance given ≤ given
  unfolding spelled_heat
  no_greater given = go (eqb given (heat_of substance 0))
    where
      go : (b : Bool) → cond b 0 given ≤ given
      go true = omega arith
      go false = omega arith

  -- so once more it changes nothing
  pub settled : (given : ℕ) → spelled_heat substance (spelled_heat substance given) ≡ spelled_heat substance given
  settled given = by_heat (spelled_heat substance given) ∙ ap (spelled_heat substance) (keeps_heat given) ∙ sym (by_heat given)
