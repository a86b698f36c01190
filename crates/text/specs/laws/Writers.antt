-- Laws of a text written at the start of an area. Assumes nothing.
use Rattle.std.specs.Prelude.{ℕ, suc, ◌≤◌, ◌<◌, ◌≡◌, List, [], ◌∷◌, ◌++◌, length, take, drop, set, get_or}
use Rattle.std.proofs.Common.{sym, ap, ◌∙◌, append_assoc, add-one, arith, length-append, length-drop, drop-cons, drop-drop}
use Rattle.std.proofs.Math.Seq.{set-append_seam, append_snoc, take-append_seam, drop-append_seam}
use Rattle.text.specs.Writers.{over}

pub length_over : (text area : List ℕ) → length text ≤ length area → length (over text area) ≡ length area
length_over text area h = simp (length-append, length-drop) (omega arith)

-- one byte more at the end of the text
over_byte : (text area : List ℕ) (a : ℕ) → length text < length area → set (over text area) (length text) a ≡ over (text ++ (a ∷ [])) area
over_byte text area a h =
    rw (drop-cons area (length text) 0 h, set-append_seam text (get_or area (length text) 0) (drop (suc (length text)) area) a)
    (sym (append_snoc text a (drop (suc (length text)) area))
    ∙ ap (λ (k : ℕ). text ++ (a ∷ []) ++ drop k area) (sym (length-append text (a ∷ []) ∙ add-one (length text))))

pub over_store
    : (text area out : List ℕ) (n a : ℕ) → out ≡ over text area → n ≡ length text → n < length area → set out n a ≡ over (text ++ (a ∷ [])) area
over_store text area out n a e m h = rw (e, m) (over_byte text area a (rw m at h))

-- a text written behind the text
pub over_part
    : (text more area : List ℕ) → take (length text) (over text area) ++ over more (drop (length text) (over text area)) ≡ over (text ++ more) area
over_part text more area =
    rw (take-append_seam, drop-append_seam)
    (sym (append_assoc text more (drop (length more) (drop (length text) area)))
    ∙ ap (λ (r : List ℕ). text ++ more ++ r)
    (drop-drop (length more) (length text) area ∙ ap (λ (k : ℕ). drop k area) (sym (length-append text more))))
