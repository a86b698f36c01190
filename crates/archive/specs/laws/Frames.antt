-- Laws of the frames of a list with holes: how many bytes they have, one place more, and the frame of each case. Assumes nothing.
use Rattle.std.specs.Prelude.{ℕ, zero, suc, ◌+◌, ◌*◌, ◌<◌, ◌≡◌, refl, List, [], ◌∷◌, ◌++◌, length, get_or, take, drop, Option, None, Some}
use Rattle.std.proofs.lemmas.Option.{none-some, same_Some}
use Rattle.std.proofs.Common.{sym, ap, ◌∙◌, append_assoc, append-nil, arith, length-append, take-suc, take_at, drop_at, drop-drop}
use Rattle.fields.specs.Bytes.{long_frame}
use Rattle.fields.specs.laws.Back.{long_length}
use Rattle.places.specs.declared.Held.{Held}
use Rattle.places.specs.Holes.{trim, closed}
use Rattle.places.specs.laws.Trims.{ahead_same}
use Rattle.places.specs.laws.Closings.{closed_hole, closed_case}
use Rattle.archive.specs.Archived.{frame_at, frames_of}
use Rattle.archive.specs.Steps.{cases}

-- holes at the end have no frames
pub frames_trim : (xs : List (Option Held)) → frames_of (trim xs) ≡ frames_of xs
unfolding frames_of trim
frames_trim [] = refl
frames_trim (x ∷ xs) = ahead_same frames_of refl x (trim xs) ∙ ap (λ (t : List ℕ). frame_at x ++ t) (frames_trim xs)

-- nor has a gap
pub frames_closed : (xs : List (Option Held)) → frames_of (closed xs) ≡ frames_of xs
unfolding frames_of closed
frames_closed [] = refl
frames_closed (None ∷ xs) = frames_closed xs
frames_closed (Some h ∷ xs) = ap (λ (t : List ℕ). long_frame h.case ++ t) (frames_closed xs)

-- 24 bytes for each case
pub frames_length : (xs : List (Option Held)) → length (frames_of xs) ≡ 24 * length (closed xs)
unfolding frames_of closed
frames_length [] = refl
frames_length (None ∷ xs) = frames_length xs
frames_length (Some h ∷ xs) = omega (arith, length-append (long_frame h.case) (frames_of xs), long_length h.case, frames_length xs)

frames_append : (xs : List (Option Held)) (x : Option Held) → frames_of (xs ++ (x ∷ [])) ≡ frames_of xs ++ frame_at x
unfolding frames_of
frames_append [] x = append-nil (frame_at x)
frames_append (y ∷ xs) x = ap (λ (t : List ℕ). frame_at y ++ t) (frames_append xs x) ∙ sym (append_assoc (frame_at y) (frames_of xs) (frame_at x))

-- one place more
module _ (xs : List (Option Held)) (i : ℕ) (l : i < length xs) where
  pub frames_next : (x : Option Held) → get_or xs i None ≡ x → frames_of (take (suc i) xs) ≡ frames_of (take i xs) ++ frame_at x
  frames_next x e = rw (take-suc xs i None l, e) (frames_append (take i xs) x)

  pub cases_next : (x : Option Held) → get_or xs i None ≡ x → length (closed (take (suc i) xs)) ≡ length (closed (take i xs)) + cases x
  cases_next None e = ap length (closed_hole xs i l e) ∙ omega arith
  cases_next (Some h) e = ap length (closed_case xs i h l e) ∙ length-append (closed (take i xs)) (Some h ∷ [])

-- the frame of each case, counted from 0
frame_of_lem : (xs : List (Option Held)) (i : ℕ) (h : Held) → get_or (closed xs) i None ≡ Some h → take 24 (drop (24 * i) (frames_of (closed xs))) ≡ long_frame h.case
unfolding frames_of closed
frame_of_lem [] i h e = absurd (none-some h e)
frame_of_lem (None ∷ xs) i h e = frame_of_lem xs i h e
frame_of_lem (Some c ∷ xs) zero h e =
    take_at (long_frame c.case) (frames_of (closed xs)) 24 (long_length c.case) ∙ ap (λ (d : Held). long_frame d.case) (same_Some c h e)
frame_of_lem (Some c ∷ xs) (suc i) h e =
    let past : 24 * suc i ≡ 24 + 24 * i = omega arith in
    let behind : drop (24 * suc i) (long_frame c.case ++ frames_of (closed xs)) ≡ drop (24 * i) (frames_of (closed xs))
    = ap (λ (k : ℕ). drop k (long_frame c.case ++ frames_of (closed xs))) past
    ∙ sym (drop-drop (24 * i) 24 (long_frame c.case ++ frames_of (closed xs)))
    ∙ ap (drop (24 * i)) (drop_at (long_frame c.case) (frames_of (closed xs)) 24 (long_length c.case)) in
    ap (take 24) behind ∙ frame_of_lem xs i h e

pub frame_at_lem : (xs : List (Option Held)) (i : ℕ) (h : Held) → get_or (closed xs) i None ≡ Some h → take 24 (drop (24 * i) (frames_of xs)) ≡ long_frame h.case
frame_at_lem xs i h e = rw (← frames_closed xs) (frame_of_lem xs i h e)
