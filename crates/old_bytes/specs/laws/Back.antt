-- 58 bytes with their tags in place and usable doubles are those of the old case that they hold, and an old case that fits its bytes is that of its own bytes. Assumes nothing.
use Rattle.std.specs.Prelude.{ℕ, ◌+◌, ◌*◌, ◌/◌, ◌^◌, ◌≡◌, refl, false, not, List, [], ◌∷◌, ◌++◌, T, eqb, length, Float}
use Rattle.std.proofs.Common.{sym, ap, ◌∙◌, eqb-true}
use Rattle.std.proofs.Math.Pow.{are_bytes}
use Rattle.std.proofs.lemmas.List.Edits.{sets}
use Rattle.std.specs.Float.{binary64}
use Rattle.std.specs.Float.Ieee.{fits, of_bits, to_bits}
use Rattle.std.specs.Float.Ieee.Bits.{of_bits-to_bits, of_bits-fits, to_bits-lt, to_bits-of_bits}
use Rattle.std.proofs.lemmas.Bool.{not-false}
use Rattle.byte_numbers.specs.Numbers.{one_at, eight_at, one, four, eight}
use Rattle.byte_numbers.specs.laws.Storing.{sets_all}
use Rattle.byte_numbers.specs.laws.Back.{byte_at, one_back, eight_back, joined, one_read, eight_read, eight_at_lt, as_listed, append_bytes, one_bytes, eight_bytes}
use Rattle.fields.specs.Bytes.{settings}
use Rattle.fields.specs.laws.Back.{settings_read, settings_bytes}
use Rattle.refusals.proofs.laws.Order.{none_of}
use Rattle.doubles.specs.Doubles.{unusable}
use Rattle.doubles.specs.laws.Values.{no_nan, usable_finite}
use Rattle.old_case.specs.declared.OldField.{OldField}
use Rattle.old_case.specs.declared.OldField.TheVariants.{MassKg, MeanG, StoichiometricG, HeatMj, DistanceM, BodyKg}
use Rattle.old_case.specs.declared.OldCase.{OldCase}
use Rattle.old_case.specs.Fields.{value_of}
use Rattle.old_case.specs.Cases.{unusable_in}
use Rattle.old_case.specs.laws.Usable.{usable}
use Rattle.old_case.specs.laws.Trip.{Fitting}
use Rattle.old_bytes.specs.Bytes.{double_at, old_of, misplaced, tag_of, field_bytes, old_bytes}

pub old_length : (o : OldCase) → length (old_bytes o) ≡ 58
unfolding old_bytes settings field_bytes one four eight
old_length o = refl

-- they fill an array of as many
pub old_filled : (l : List ℕ) (o : OldCase) → length l ≡ 58 → sets l 0 (old_bytes o) ≡ old_bytes o
old_filled l o h = sets_all l (old_bytes o) (old_length o ∙ sym h)

-- the bytes of what was read

double_again : (s : List ℕ) (i : ℕ)
    → T (are_bytes s)
    → unusable (double_at s i) ≡ false
    → eight (to_bits binary64 (double_at s i)) ≡ one_at s i ∷ one_at s (i + 1) ∷ one_at s (i + 2) ∷ one_at s (i + 2 + 1) ∷ one_at s (i + 4) ∷ one_at s (i + 4 + 1) ∷ one_at s (i + 4 + 2) ∷ one_at s (i + 4 + 2 + 1) ∷ []
double_again s i h u =
    ap eight (to_bits-of_bits binary64 (eight_at s i) (eight_at_lt s i h) (no_nan (double_at s i) (usable_finite (double_at s i) u))) ∙ eight_read s i h

tag_again : (s : List ℕ) (i t : ℕ) → T (are_bytes s) → one_at s i ≡ t → one t ≡ one_at s i ∷ []
tag_again s i t h e = ap one (sym e) ∙ one_read s i h

record Tags (s : List ℕ) : Type 0 where
  mass : one_at s 4 ≡ 1
  mean : one_at s 13 ≡ 2
  stoichiometric : one_at s 22 ≡ 3
  heat : one_at s 31 ≡ 4
  distance : one_at s 40 ≡ 5
  body : one_at s 49 ≡ 6

tags : (s : List ℕ) → misplaced s ≡ false → Tags s
unfolding misplaced
tags s h =
    let n = none_of (not (eqb (one_at s 4) 1)) (not (eqb (one_at s 13) 2)) (not (eqb (one_at s 22) 3)) (not (eqb (one_at s 31) 4)) (not (eqb (one_at s 40) 5)) (not (eqb (one_at s 49) 6)) h in
    record { mass = is 4 1 n.0; mean = is 13 2 n.1; stoichiometric = is 22 3 n.2; heat = is 31 4 n.3; distance = is 40 5 n.4; body = is 49 6 n.5 }
  where
    is : (i t : ℕ) → not (eqb (one_at s i) t) ≡ false → one_at s i ≡ t
    is i t e = eqb-true (one_at s i) t (not-false (eqb (one_at s i) t) e)

pub bytes_again : (s : List ℕ) → T (are_bytes s) → length s ≡ 58 → misplaced s ≡ false → unusable_in (old_of s) ≡ false → old_bytes (old_of s) ≡ s
unfolding old_bytes field_bytes old_of
bytes_again s h n m u =
    let t = tags s m in
    let w = usable (old_of s) u in
    (λ k.
    settings_read s h k
    ++ (tag_again s 4 1 h t.mass k ++ double_again s 5 h w.mass k)
    ++ (tag_again s 13 2 h t.mean k ++ double_again s 14 h w.mean k)
    ++ (tag_again s 22 3 h t.stoichiometric k ++ double_again s 23 h w.stoichiometric k)
    ++ (tag_again s 31 4 h t.heat k ++ double_again s 32 h w.heat k)
    ++ (tag_again s 40 5 h t.distance k ++ double_again s 41 h w.distance k)
    ++ (tag_again s 49 6 h t.body k ++ double_again s 50 h w.body k))
    ∙ sym (as_listed 58 s n)

-- what is read of an old case's bytes

pub tags_in_place : (o : OldCase) → misplaced (old_bytes o) ≡ false
unfolding misplaced old_bytes settings field_bytes one four eight
tags_in_place o = refl

double_back : (x : Float) → T (fits binary64 x) → of_bits binary64 (2 ^ 32 * joined (to_bits binary64 x / 2 ^ 32) + joined (to_bits binary64 x)) ≡ x
double_back x F = ap (of_bits binary64) (eight_back (to_bits binary64 x) (to_bits-lt binary64 x F)) ∙ of_bits-to_bits binary64 x F

pub old_again : (o : OldCase) → Fitting o → old_of (old_bytes o) ≡ o
unfolding old_of old_bytes settings field_bytes one four eight
old_again o f =
    λ k. record {
      substance = one_back o.substance f.substance k;
      state = one_back o.state f.state k;
      placement = one_back o.placement f.placement k;
      surroundings = one_back o.surroundings f.surroundings k;
      mass = double_back o.mass f.mass k;
      mean = double_back o.mean f.mean k;
      stoichiometric = double_back o.stoichiometric f.stoichiometric k;
      heat = double_back o.heat f.heat k;
      distance = double_back o.distance f.distance k;
      body = double_back o.body f.body k;
    }

-- and they are bytes

with_field : (a : List ℕ) (f : OldField) → T (are_bytes a) → T (are_bytes (a ++ field_bytes f))
unfolding field_bytes
with_field a f h =
    let bits = to_bits binary64 (value_of f) in
    append_bytes a (one (tag_of f) ++ eight bits) h (append_bytes (one (tag_of f)) (eight bits) (one_bytes (tag_of f)) (eight_bytes bits))

pub old_bytes_lem : (o : OldCase) → T (are_bytes (old_bytes o))
unfolding old_bytes
old_bytes_lem o =
    let a = settings o.substance o.state o.placement o.surroundings in
    let b = a ++ field_bytes (MassKg o.mass) in
    let c = b ++ field_bytes (MeanG o.mean) in
    let d = c ++ field_bytes (StoichiometricG o.stoichiometric) in
    let e = d ++ field_bytes (HeatMj o.heat) in
    let f = e ++ field_bytes (DistanceM o.distance) in
    with_field f (BodyKg o.body)
    (with_field e (DistanceM o.distance)
    (with_field d (HeatMj o.heat)
    (with_field c (StoichiometricG o.stoichiometric)
    (with_field b (MeanG o.mean) (with_field a (MassKg o.mass) (settings_bytes o.substance o.state o.placement o.surroundings))))))

-- what 58 bytes hold fits them
pub bytes_fit : (s : List ℕ) → T (are_bytes s) → Fitting (old_of s)
unfolding old_of
bytes_fit s h =
    record {
      substance = byte_at s 0 h;
      state = byte_at s 1 h;
      placement = byte_at s 2 h;
      surroundings = byte_at s 3 h;
      mass = of_bits-fits binary64 (eight_at s 5);
      mean = of_bits-fits binary64 (eight_at s 14);
      stoichiometric = of_bits-fits binary64 (eight_at s 23);
      heat = of_bits-fits binary64 (eight_at s 32);
      distance = of_bits-fits binary64 (eight_at s 41);
      body = of_bits-fits binary64 (eight_at s 50);
    }
