-- Laws of the lines of an input: an input in two parts, and where the first line ends. Assumes nothing.
use Rattle.std.specs.Prelude.{ℕ, suc, ◌≤◌, ◌<◌, ◌≡◌, refl, true, false, cond, List, [], ◌∷◌, ◌++◌, length, take, eqb}
use Rattle.std.proofs.Common.{zero-le, suc-le-suc, sym, ap, ◌∙◌, append_assoc, append-nil, not-suc-le-zero, le_of_suc-le-suc, eqb-true, eq-eqb, ne_eqb}
use Rattle.exact.proofs.laws.Tests.{settle}
use Rattle.text.specs.Lines.{lf, ended, left}
use Rattle.text.specs.Feeding.{end_of}

-- an input in two parts: the second begins with what the first has left
pub ended_append : (p a b : List ℕ) → ended p (a ++ b) ≡ ended p a ++ ended (left p a) b
unfolding ended left
ended_append p [] b = refl
ended_append p (x ∷ a) b =
    rw (ended_append [] a b, ended_append (p ++ (x ∷ [])) a b)
    (elim (eqb x lf)
    as (λ t.
    cond t (p ∷ (ended [] a ++ ended (left [] a) b)) (ended (p ++ (x ∷ [])) a ++ ended (left (p ++ (x ∷ [])) a) b)
    ≡ cond t (p ∷ ended [] a) (ended (p ++ (x ∷ [])) a) ++ ended (cond t (left [] a) (left (p ++ (x ∷ [])) a)) b)
    [ true ↦ refl | false ↦ refl ])

pub left_append : (p a b : List ℕ) → left p (a ++ b) ≡ left (left p a) b
unfolding left
left_append p [] b = refl
left_append p (x ∷ a) b =
    rw (left_append [] a b, left_append (p ++ (x ∷ [])) a b)
    (elim (eqb x lf)
    as (λ t.
    cond t (left (left [] a) b) (left (left (p ++ (x ∷ [])) a) b) ≡ left (cond t (left [] a) (left (p ++ (x ∷ [])) a)) b)
    [ true ↦ refl | false ↦ refl ])

pub end_of_none : end_of [] ≡ 0
unfolding end_of
end_of_none = refl

pub end_of_lf : {b : ℕ} (s : List ℕ) → b ≡ lf → end_of (b ∷ s) ≡ 0
unfolding end_of
end_of_lf {b} s e = rw (eq-eqb b lf e)

pub end_of_character : {b : ℕ} (s : List ℕ) → (b ≡ lf → ⊥) → end_of (b ∷ s) ≡ suc (end_of s)
unfolding end_of
end_of_character {b} s n = rw (ne_eqb b lf n)

pub end_of_within : (s : List ℕ) → end_of s ≤ length s
unfolding end_of
end_of_within [] = zero-le
end_of_within (b ∷ s) =
    elim (eqb b lf) as (λ t. cond t 0 (suc (end_of s)) ≤ suc (length s)) [ true ↦ zero-le | false ↦ suc-le-suc (end_of_within s) ]

-- up to its first LF an input is characters of one line
pub ended_characters : (p s : List ℕ) → ended p (take (end_of s) s) ≡ []
unfolding ended end_of
ended_characters p [] = refl
ended_characters p (b ∷ s) =
    settle (eqb b lf) (λ e. rw e) (λ e. rw (e, e) (ended_characters (p ++ (b ∷ [])) s))

pub left_characters : (p s : List ℕ) → left p (take (end_of s) s) ≡ p ++ take (end_of s) s
unfolding left end_of
left_characters p [] = sym (append-nil p)
left_characters p (b ∷ s) =
    settle (eqb b lf)
    (λ e. rw e (sym (append-nil p)))
    (λ e. rw (e, e) (left_characters (p ++ (b ∷ [])) s ∙ append_assoc p (b ∷ []) (take (end_of s) s)))

-- an LF that is there ends the line
pub end_of_found : (s : List ℕ) → end_of s < length s → take (suc (end_of s)) s ≡ take (end_of s) s ++ (lf ∷ [])
unfolding end_of
end_of_found [] h = absurd (not-suc-le-zero h)
end_of_found (b ∷ s) h =
    settle (eqb b lf)
    (λ e. rw (e, eqb-true b lf e))
    (λ e. rw e (ap (λ (r : List ℕ). b ∷ r) (end_of_found s (le_of_suc-le-suc (rw e at h)))))

-- LF alone ends the line that came before
one : (p : List ℕ) → ended p (lf ∷ []) ≡ p ∷ []
unfolding ended
one p = refl

none : (p : List ℕ) → left p (lf ∷ []) ≡ []
unfolding left
none p = refl

pub ended_line : (p s : List ℕ) → end_of s < length s → ended p (take (suc (end_of s)) s) ≡ (p ++ take (end_of s) s) ∷ []
ended_line p s h = rw (end_of_found s h, ended_append p (take (end_of s) s) (lf ∷ []), ended_characters p s, left_characters p s) (one (p ++ take (end_of s) s))

pub left_line : (p s : List ℕ) → end_of s < length s → left p (take (suc (end_of s)) s) ≡ []
left_line p s h = rw (end_of_found s h, left_append p (take (end_of s) s) (lf ∷ [])) (none (left p (take (end_of s) s)))
