-- The record of a line that was held in part. Assumes nothing.
use Prim.Native.Nat.{ℕ, zero, suc, ◌+◌}
use mathlib.Core.Path.{◌≡◌, refl, ap, ◌∙◌}
use mathlib.Core.List.{List, [], ◌∷◌, ◌++◌, append-nil}
use lib.ListN.{take}
use Rattle.text.specs.declared.Stream.{Stream}
use Rattle.text.specs.laws.Caps.{record_capped}
use Rattle.text.specs.Writers.{Printed}
use Rattle.text.specs.Feeding.{Held, Ends}

-- what is cut off later may be cut off at once
pub take_cap : (n : ℕ) (p q : List ℕ) → take n (take n p ++ q) ≡ take n (p ++ q)
take_cap zero p q = refl
take_cap (suc n) [] q = refl
take_cap (suc n) (x ∷ p) q = ap (λ (r : List ℕ). x ∷ r) (take_cap n p q)

printed_capped : {k : ℕ} (line : List ℕ) {before after : List ℕ} {r : ℕ} → Printed k (take 49 line) before after r → Printed k line before after r
printed_capped line p = record { text = p.text; correct = record_capped line p.correct; puts = p.puts }

pub ends_held
    : {s : Stream} {before after : List ℕ} {r : ℕ} →
    Printed (s.lines + 1) (take s.held s.line) before after r →
    Ends s [] before after r
ends_held w = record { printed = λ p e. rw (append-nil p) (printed_capped p (rw e at w)) }

-- nothing held is nothing before
pub none_before : (p : List ℕ) → [] ≡ take 49 p → p ≡ []
none_before [] e = refl
none_before (x ∷ p) e = cc

pub ends_direct
    : {s : Stream} {chars before after : List ℕ} {r : ℕ} →
    s.held ≡ 0 →
    Printed (s.lines + 1) chars before after r →
    Ends s chars before after r
ends_direct {s} {chars} none w = record { printed = λ p e. rw (none_before p (rw none at e)) w }

pub ends_later
    : {s t : Stream} {chars before after : List ℕ} {r : ℕ} → Held s chars t → Ends t [] before after r → Ends s chars before after r
ends_later {s} {t} {chars} h w =
    record {
      printed =
          λ p e.
          let whole : take t.held t.line ≡ take 49 (p ++ chars)
          = h.line ∙ ap (λ (l : List ℕ). take 49 (l ++ chars)) e ∙ take_cap 49 p chars in
          rw (h.lines, append-nil (p ++ chars)) at (w.printed (p ++ chars) whole);
    }
