-- `layout::put_probit` meets its contract: the last four bytes of a signed number's 64 bits are its 32 bits. Assumes nothing.
use Rattle.std.proofs.Common.{◌≡◌, refl, ap, ◌∙◌, ℕ, suc, ◌+◌, ◌-◌, ◌*◌, ◌/◌, ◌%◌, ◌^◌, ◌<◌, ◌∷◌, [], ◌++◌, ℤ, pos, negsuc, arith}
use Rattle.std.specs.Int.{w64, cast_unsigned}
use Rattle.std.specs.Int.Signed.{mag}
use Rattle.byte_numbers.specs.Numbers.{four}
use Rattle.byte_numbers.specs.laws.Storing.{stored_as}
use Rattle.signed.proofs.Back.{back}
use Rattle.layout.specs.Bytes.{twos, signeds}
use Rattle.layout.specs.Places.{probit_of}
use Rattle.layout.proofs.put_probit.Goals as goal

-- what stands above 32 bits is not stored
low_four : (k w : ℕ) → four (2 ^ 32 * k + w) ≡ four w
unfolding four
low_four k w = λ i. first i ∷ second i ∷ third i ∷ fourth i ∷ []
  where
    first : (2 ^ 32 * k + w) / 2 ^ 24 % 256 ≡ w / 2 ^ 24 % 256
    first = omega arith

    second : (2 ^ 32 * k + w) / 2 ^ 16 % 256 ≡ w / 2 ^ 16 % 256
    second = omega arith

    third : (2 ^ 32 * k + w) / 2 ^ 8 % 256 ≡ w / 2 ^ 8 % 256
    third = omega arith

    fourth : (2 ^ 32 * k + w) % 256 ≡ w % 256
    fourth = omega arith

of_signed : (x : ℤ) → mag x < 2 ^ 31 → four (cast_unsigned w64 x) ≡ four (twos x)
unfolding twos
of_signed (pos a) h = refl
of_signed (negsuc a) h =
    let e : 2 ^ 64 - suc a ≡ 2 ^ 32 * (2 ^ 32 - 1) + (2 ^ 32 - suc a) = omega arith in
    ap four e ∙ low_four (2 ^ 32 - 1) (2 ^ 32 - suc a)

pub returns : goal.returns
unfolding probit_of signeds
returns c =
    let p = c.args.p in
    let f = c.requires.fits in
    let l : four c.cast_unsigned-lower.result ≡ four (twos p.lower) = ap four (c.cast_unsigned-lower.ensures ∙ ap (cast_unsigned w64) (back p.lower (omega (arith, f.lower)))) ∙ of_signed p.lower f.lower in
    let u : four c.cast_unsigned-upper.result ≡ four (twos p.upper) = ap four (c.cast_unsigned-upper.ensures ∙ ap (cast_unsigned w64) (back p.upper (omega (arith, f.upper)))) ∙ of_signed p.upper f.upper in
    stored_as c.put_ends.ensures (λ i. l i ++ u i)
