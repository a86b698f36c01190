-- Laws of an output's text. Assumes nothing.
use Rattle.std.specs.Prelude.{ℕ, ◌+◌, List, [], ◌∷◌, ◌++◌, length}
use Rattle.std.proofs.Common.{sym, ◌∙◌, subst, append_assoc, append-nil, add-zero, add-suc, suc-add}
use Rattle.text.specs.Records.{Record, Text}
use Rattle.text.specs.Records.Text.{none, one}

-- the text of some lines, then that of the lines after them
pub text_append
    : {k : ℕ} {a b : List (List ℕ)} {x y : List ℕ} → Text k a x → Text (k + length a) b y → Text k (a ++ b) (x ++ y)
text_append {k} {b = b} {y = y} none u = subst (λ (n : ℕ). Text n b y) (add-zero k) u
text_append {k} {b = b} {y = y} (one {text = text} {lines = lines} {rest = rest} r t) u =
    rw (append_assoc text rest y) (one r (text_append t (subst (λ (n : ℕ). Text n b y) (add-suc k (length lines) ∙ sym (suc-add k (length lines))) u)))

pub text_one : {k : ℕ} {line text : List ℕ} → Record k line text → Text k (line ∷ []) text
text_one {text = text} r = rw (sym (append-nil text)) (one r none)
