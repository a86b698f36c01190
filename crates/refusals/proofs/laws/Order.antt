-- Laws of tests in their order. Assumes nothing.
use Rattle.std.specs.Prelude.{ℕ, ◌≡◌, Bool, ◌&&◌, ◌||◌, eqb}
use Rattle.std.proofs.Math.Path.{refl}
use Rattle.std.proofs.Common.{ap, sym, ◌∙◌, eq-eqb}
use Rattle.std.proofs.Math.Bool.{true, false, true≢false}
use mathlib.Core.List.{List, [], ◌∷◌, ◌++◌}
use Rattle.std.proofs.Math.Option.{Option, none, some, some-ne-none, none-ne-some, some-injective}
use Rattle.refusals.specs.Order.{Test, ◌when◌, first_of, held}

-- neither part of a disjunction that fails
pub neither : (a b : Bool) → (a || b) ≡ false → (a ≡ false) × (b ≡ false)
neither false b h = (refl, h)
neither true b h = absurd (true≢false h)

-- none of six
pub none_of : (a b c d e f : Bool) → (a || b || c || d || e || f) ≡ false → (a ≡ false) × (b ≡ false) × (c ≡ false) × (d ≡ false) × (e ≡ false) × (f ≡ false)
none_of false false false false false f h = (refl, refl, refl, refl, refl, h)
none_of true b c d e f h = absurd (true≢false h)
none_of false true c d e f h = absurd (true≢false h)
none_of false false true d e f h = absurd (true≢false h)
none_of false false false true e f h = absurd (true≢false h)
none_of false false false false true f h = absurd (true≢false h)

pub none_applies : {a b c d e f : Bool} → a ≡ false → b ≡ false → c ≡ false → d ≡ false → e ≡ false → f ≡ false → (a || b || c || d || e || f) ≡ false
none_applies p q r s t u = simp (p, q, r, s, t, u)

module _ {R S : Type 0} (by : R → S) where
  -- what the first finds, else the second
  abbrev pub or_else : Option R → Option S → Option S
  or_else none rest = rest
  or_else (some r) rest = some (by r)

  -- tests behind others: they decide where none of those applies
  pub first_held : (ts : List (Test R)) (us : List (Test S)) → first_of (held by ts ++ us) ≡ or_else (first_of ts) (first_of us)
  unfolding first_of held
  first_held [] us = refl
  first_held ((q when true) ∷ later) us = refl
  first_held ((q when false) ∷ later) us = first_held later us

  -- so they find the same behind lists that find the same, and nothing new behind one that finds something
  pub same_held : (ts us : List (Test R)) (vs : List (Test S)) → first_of ts ≡ first_of us → first_of (held by ts ++ vs) ≡ first_of (held by us ++ vs)
  same_held ts us vs e = first_held ts vs ∙ ap (λ (o : Option R). or_else o (first_of vs)) e ∙ sym (first_held us vs)

  pub found_held : (ts : List (Test R)) (r : R) (vs : List (Test S)) → first_of ts ≡ some r → first_of (held by ts ++ vs) ≡ some (by r)
  found_held ts r vs e = first_held ts vs ∙ ap (λ (o : Option R). or_else o (first_of vs)) e

  pub neither_found : (a : Option R) (b : Option S) → or_else a b ≡ none → (a ≡ none) × (b ≡ none)
  neither_found none b h = (refl, h)
  neither_found (some r) b h = absurd (some-ne-none (by r) h)

module _ {R : Type 0} where
  -- tests of one type behind others
  pub first_append : (ts us : List (Test R)) → first_of (ts ++ us) ≡ or_else (λ (r : R). r) (first_of ts) (first_of us)
  unfolding first_of
  first_append [] us = refl
  first_append ((q when true) ∷ later) us = refl
  first_append ((q when false) ∷ later) us = first_append later us

  -- no test of a list applies
  abbrev pub Passed : List (Test R) → Type 0
  Passed [] = Unit {0}
  Passed ((q when b) ∷ later) = (b ≡ false) × Passed later

  pub none_first : (q : R) (b : Bool) (later : List (Test R)) → first_of ((q when b) ∷ later) ≡ none → (b ≡ false) × (first_of later ≡ none)
  unfolding first_of
  none_first q true later h = absurd (some-ne-none q h)
  none_first q false later h = (refl, h)

  pub passed : (ts : List (Test R)) → first_of ts ≡ none → Passed ts
  passed [] h = tt
  passed ((q when b) ∷ later) h = let n = none_first q b later h in (n.0, passed later n.1)

  -- and then none is found
  pub none_found : (ts : List (Test R)) → Passed ts → first_of ts ≡ none
  unfolding first_of
  none_found [] p = refl
  none_found ((q when b) ∷ later) p = simp p.0 (none_found later p.1)

module _ {R : Type 0} (number : R → ℕ) where
  -- whether a test of the refusal with this number applies, wherever it stands in the list
  abbrev pub applies : ℕ → List (Test R) → Bool
  applies n [] = false
  applies n ((q when b) ∷ later) = eqb (number q) n && b || applies n later

  -- a refusal is given only where its test applies
  pub absent : (r : R) (ts : List (Test R)) → applies (number r) ts ≡ false → first_of ts ≡ some r → ⊥
  unfolding first_of
  absent r [] a h = none-ne-some r h
  absent r ((q when true) ∷ later) a h =
      let e : q ≡ r = some-injective q r h in
      let n = (neither (eqb (number q) (number r) && true) (applies (number r) later) a).0 in
      let y : (eqb (number q) (number r) && true) ≡ true = simp (eq-eqb (number q) (number r) (ap number e)) in
      true≢false (sym y ∙ n)
  absent r ((q when false) ∷ later) a h = absent r later (neither (eqb (number q) (number r) && false) (applies (number r) later) a).1 h
