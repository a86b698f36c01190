-- How totals are kept up as one case comes or goes: laws/Changes has it that right ones stay right.
use Rattle.std.specs.Prelude.{ℕ, ◌+◌, ◌-◌, ◌||◌, cond, eqb, ltb, Option, None, Some}
use Rattle.places.specs.declared.Held.{Held}
use Rattle.places.specs.declared.Places.{Places}
use Rattle.places.specs.Places.{stands_for}
use Rattle.totals.specs.declared.Totals.{Totals}
use Rattle.totals.specs.Totals.{totals_of}

-- with one case more, behind the others
unfoldable pub including : Totals → (place upper : ℕ) → Totals
including t k u =
    cond (eqb t.cases 0 || ltb t.greatest u)
    (record { cases = t.cases + 1; greatest = u; place = k })
    (record { cases = t.cases + 1; greatest = t.greatest; place = t.place })

-- with what the next place holds
abbrev pub including_any : Totals → (place : ℕ) → Option Held → Totals
including_any t k None = t
including_any t k (Some h) = including t k h.upper

-- without a case that is not the one shown; 0 - 1 is 0
abbrev pub excluding : Totals → Totals
excluding t = record { cases = t.cases - 1; greatest = t.greatest; place = t.place }

-- after a case came, where a count that cannot be is worked afresh; and after one went

unfoldable pub after_adding : Totals → (now : Places) (place : ℕ) → Held → Totals
after_adding t now k h = cond (ltb t.cases 64) (including t k h.upper) (totals_of (stands_for now))

unfoldable pub after_withdrawing : Totals → (now : Places) (place : ℕ) → Totals
after_withdrawing t now k = cond (eqb t.place k) (totals_of (stands_for now)) (excluding t)
