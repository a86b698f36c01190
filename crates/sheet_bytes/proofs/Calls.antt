-- The places that calls at each index make. Assumes nothing.
use Prim.Native.Nat.{ℕ, zero, suc, ◌+◌, ◌<◌}
use mathlib.Core.Path.{◌≡◌, refl, sym, ap, subst, ◌∙◌}
use mathlib.Core.List.{List, map, ◌∷◌, [], ◌++◌}
use native.Mathlib.Numerals.{add-one}
use native.Mathlib.Omega.{arith}
use lib.ListN.{get_or}
use denote.Param.Members.{Mut}
use Rattle.std.specs.Prelude.{Option}
use Rattle.std.specs.Fn.{Called}
use Rattle.std.specs.List.{range_with_len}
use Rattle.std.specs.Array.{IsFromFnResult, IsFromFnResultFrom}
use Rattle.std.proofs.lemmas.List.FromFn.{fill_by_all, map-range_with_len_more}
use Rattle.places.specs.declared.Held.{Held}
use Rattle.sheet_bytes.specs.Packing.{read_at, unpacked}
use Rattle.sheet_bytes.specs.laws.Places.{unpacked_next}

-- where calls leave the function as it was, the array is its values
module _ {F B : Type 0} (g : Mut F (ℕ × Unit {0}) B) (f : F) (h : ℕ → B) (same : (i : ℕ) (y : B) (q : F) → Called g f (i, tt) y q → (q ≡ f) × (y ≡ h i)) where
  each : (ys : List B) (i n k j : ℕ) (d : B) (e : F) → e ≡ f → IsFromFnResultFrom g e ys i n → k < n → j ≡ i + k → get_or ys j d ≡ h j
  each ys i zero k j d e p c l at = absurd (omega arith)
  each ys i (suc n) zero j d e p c l at =
      let here : j ≡ i = omega arith in
      let call = same i c.1 c.0 (subst (λ (x : F). Called g x (i, tt) c.1 c.0) p c.3) in
      rw here (c.2.1 d ∙ call.1)
  each ys i (suc n) (suc k) j d e p c l at =
      let call = same i c.1 c.0 (subst (λ (x : F). Called g x (i, tt) c.1 c.0) p c.3) in
      each ys (i + 1) n k j d c.0 call.0 c.4 (omega arith) (omega arith)

  pub made_by : (ys : List B) (n : ℕ) (d : B) → IsFromFnResult g f ys n → ys ≡ map h (range_with_len 0 n)
  made_by ys n d c = fill_by_all h ys n d c.long (λ k l. each ys 0 n k k d f refl c.each l (omega arith))

pub unpacked_made : (n : ℕ) (s : List ℕ) → map (read_at s) (range_with_len 0 n) ≡ unpacked n s
unfolding unpacked
unpacked_made zero s = refl
unpacked_made (suc n) s =
    ap (λ (m : ℕ). map (read_at s) (range_with_len 0 m)) (sym (add-one n)) ∙ map-range_with_len_more (read_at s) 0 n n (omega arith)
    ∙ ap (λ (t : List (Option Held)). t ++ (read_at s n ∷ [])) (unpacked_made n s) ∙ sym (unpacked_next n s)
