-- Reading Table 3: its strict rise, tested once and carried to each entry; where a reading stops; and two readings close together.
-- Assumes nothing.
use Rattle.std.specs.Prelude.{ℕ, zero, suc, ◌+◌, ◌*◌, ◌-◌, ◌/◌, ◌≤◌, ◌<◌, ◌≡◌, refl, Bool, true, false, cond, List, [], ◌∷◌, T, ltb, leb, ℤ, pos, negsuc, get_or, length}
use Rattle.std.proofs.Common.{sym, ◌∙◌, ap, le_of_suc-le-suc, not-suc-le-zero, arith, ltb→lt, le-leb}
use Rattle.std.proofs.Math.Decide.{dec_le}
use Rattle.std.proofs.lemmas.Bool.{lt-leb}
use Rattle.signed.specs.TwoParts.{up, dn}
use Rattle.damage.specs.Damage.{table, not_above, tenths_of_percent, damage}
use Rattle.exact.proofs.laws.Tables.{both, both_left, both_right}

-- two readings that are equal or neighbours in the table, with 0 standing before 1 percent
pub record Neighbours (lower upper : ℕ) : Type 0 where
  pub place : ℕ
  pub step : ℕ
  pub step_most : step ≤ 1
  pub within : place + step ≤ 108
  pub lower_is : lower ≡ tenths_of_percent place
  pub upper_is : upper ≡ tenths_of_percent (place + step)

-- each entry is above the one before it, the first above b
abbrev rises : ℕ → List ℕ → Bool
rises b [] = true
rises b (x ∷ xs) = both (ltb b x) (rises x xs)

-- the one test: strict rise, and the first entry is above 266
table_rises : T (rises 266 table)
unfolding table both
table_rises = tt

module _ (b x : ℕ) (xs : List ℕ) (t : T (rises b (x ∷ xs))) where
  rises_head : b < x
  rises_head = ltb→lt b x (both_left _ _ t)

  rises_tail : T (rises x xs)
  rises_tail = both_right _ _ t

-- carried to each entry
above_start : (b : ℕ) (xs : List ℕ) → T (rises b xs) → (k : ℕ) → k < length xs → b < get_or xs k 0
above_start b [] t k h = absurd (not-suc-le-zero h)
above_start b (x ∷ xs) t zero h = rises_head b x xs t
above_start b (x ∷ xs) t (suc k) h = omega (arith, rises_head b x xs t, above_start x xs (rises_tail b x xs t) k (le_of_suc-le-suc h))

entries_rise : (b : ℕ) (xs : List ℕ) → T (rises b xs) → (k m : ℕ) → k < m → m < length xs → get_or xs k 0 < get_or xs m 0
entries_rise b [] t k m l h = absurd (not-suc-le-zero h)
entries_rise b (x ∷ xs) t k zero l h = absurd (not-suc-le-zero l)
entries_rise b (x ∷ xs) t zero (suc m) l h = above_start x xs (rises_tail b x xs t) m (le_of_suc-le-suc h)
entries_rise b (x ∷ xs) t (suc k) (suc m) l h = entries_rise x xs (rises_tail b x xs t) k m (le_of_suc-le-suc l) (le_of_suc-le-suc h)

pub table_length : length table ≡ 108
unfolding table
table_length = refl

pub table_entries : (k m : ℕ) → k < m → m < 108 → get_or table k 0 < get_or table m 0
table_entries k m l h = entries_rise 266 table table_rises k m l (rw table_length h)

-- Where a reading stops

counted : (x : ℕ) (xs : List ℕ) (p : ℕ) → 10 * x ≤ p → not_above (x ∷ xs) p ≡ suc (not_above xs p)
counted x xs p h = rw (le-leb (10 * x) p h) refl

passed : (x : ℕ) (xs : List ℕ) (p : ℕ) → p < 10 * x → not_above (x ∷ xs) p ≡ not_above xs p
passed x xs p h = rw (lt-leb (10 * x) p h) refl

pub count_is : (xs : List ℕ) (p n : ℕ) → n ≤ length xs → ((k : ℕ) → k < n → 10 * get_or xs k 0 ≤ p)
    → ((k : ℕ) → n ≤ k → k < length xs → p < 10 * get_or xs k 0) → n ≡ not_above xs p
count_is [] p n l below above = omega arith
count_is (x ∷ xs) p zero l below above =
    count_is xs p zero (omega arith) (λ k h. absurd (not-suc-le-zero h)) (λ k h i. above (suc k) (omega arith) (omega arith))
    ∙ sym (passed x xs p (above 0 (omega arith) (omega arith)))
count_is (x ∷ xs) p (suc n) l below above =
    ap suc (count_is xs p n (le_of_suc-le-suc l) (λ k h. below (suc k) (omega arith)) (λ k h i. above (suc k) (omega arith) (omega arith)))
    ∙ sym (counted x xs p (below 0 (omega arith)))

-- Two readings close together

-- entries of a list that rises from b are above p
none_counted : (b : ℕ) (xs : List ℕ) (p : ℕ) → T (rises b xs) → p < 10 * b + 10 → not_above xs p ≡ 0
none_counted b [] p t h = refl
none_counted b (x ∷ xs) p t h =
    passed x xs p (omega (arith, rises_head b x xs t)) ∙ none_counted x xs p (rises_tail b x xs t) (omega (arith, rises_head b x xs t))

-- as many entries or one more, for entries are at least 10 thousandths apart
record OneMore (m n : ℕ) : Type 0 where
  least : m ≤ n
  most : n ≤ m + 1

one_more : (b : ℕ) (xs : List ℕ) (p q : ℕ) → T (rises b xs) → p ≤ q → q ≤ p + 2 → OneMore (not_above xs p) (not_above xs q)
one_more b [] p q t l h = record { least = omega arith; most = omega arith }
one_more b (x ∷ xs) p q t l h = go (one_more x xs p q (rises_tail b x xs t) l h) (dec_le (10 * x) p) (dec_le (10 * x) q)
  where
    later : T (rises x xs)
    later = rises_tail b x xs t

    go : OneMore (not_above xs p) (not_above xs q) → Dec (10 * x ≤ p) → Dec (10 * x ≤ q) → OneMore (not_above (x ∷ xs) p) (not_above (x ∷ xs) q)
    go rest (yes i) (yes j) = rw (le-leb (10 * x) p i, le-leb (10 * x) q j) (record { least = omega arith; most = omega arith })
    go rest (yes i) (no j) = absurd (omega arith)
    go rest (no i) (yes j) =
        rw (lt-leb (10 * x) p (omega arith), le-leb (10 * x) q j, none_counted x xs p later (omega arith), none_counted x xs q later (omega arith))
        (record { least = omega arith; most = omega arith })
    go rest (no i) (no j) = rw (lt-leb (10 * x) p (omega arith), lt-leb (10 * x) q (omega arith)) rest

count_most : (xs : List ℕ) (p : ℕ) → not_above xs p ≤ length xs
count_most [] p = omega arith
count_most (x ∷ xs) p = go (count_most xs p) (leb (10 * x) p)
  where
    go : not_above xs p ≤ length xs → (b : Bool) → cond b (suc (not_above xs p)) (not_above xs p) ≤ suc (length xs)
    go h true = omega arith
    go h false = omega arith

-- Outside the table

pub before_table : {p : ℕ} → p < 2670 → 0 ≡ tenths_of_percent (not_above table p)
unfolding tenths_of_percent
before_table {p} h = rw (none_counted 266 table p table_rises (omega arith)) refl

last_entry : get_or table 107 0 ≡ 809
unfolding table
last_entry = refl

none_higher : (k : ℕ) → k < 108 → Dec (k < 107) → get_or table k 0 ≤ 809
none_higher k h (yes i) = omega (arith, last_entry, table_entries k 107 i (omega arith))
none_higher k h (no i) = let same : k ≡ 107 = omega arith in rw same (omega (arith, last_entry))

pub past_table : {p : ℕ} → 8090 ≤ p → 999 ≡ tenths_of_percent (not_above table p)
unfolding tenths_of_percent
past_table {p} h =
    let all : 108 ≡ not_above table p =
    count_is table p 108 (omega (arith, table_length)) (λ k i. omega (arith, none_higher k i (dec_le (suc k) 107)))
    (λ k i j. absurd (omega (arith, table_length)))
    in
    rw (sym all) refl

pub table_count : (p : ℕ) → not_above table p ≤ 108
table_count p = rw table_length at (count_most table p)

-- The reading is the greatest tabulated probability whose probit is not above

-- the entries that are counted are those not above p
within_count : (b : ℕ) (xs : List ℕ) (p : ℕ) → T (rises b xs) → (k : ℕ) → k < not_above xs p → 10 * get_or xs k 0 ≤ p
within_count b [] p t k h = absurd (not-suc-le-zero h)
within_count b (x ∷ xs) p t k h = go (within_count x xs p (rises_tail b x xs t)) k h (dec_le (10 * x) p)
  where
    go : ((k : ℕ) → k < not_above xs p → 10 * get_or xs k 0 ≤ p) → (k : ℕ) → k < not_above (x ∷ xs) p → Dec (10 * x ≤ p) → 10 * get_or (x ∷ xs) k 0 ≤ p
    go rest zero l (yes i) = i
    go rest (suc k) l (yes i) = rest k (omega (arith, l, counted x xs p i))
    go rest k l (no i) = absurd (omega (arith, l, passed x xs p (omega arith), none_counted x xs p (rises_tail b x xs t) (omega arith)))

beyond_count : (b : ℕ) (xs : List ℕ) (p : ℕ) → T (rises b xs) → (k : ℕ) → k < length xs → 10 * get_or xs k 0 ≤ p → k < not_above xs p
beyond_count b [] p t k h l = absurd (not-suc-le-zero h)
beyond_count b (x ∷ xs) p t zero h l = omega (arith, counted x xs p l)
beyond_count b (x ∷ xs) p t (suc k) h l =
    let later = rises_tail b x xs t in
    let less : x < get_or xs k 0 = above_start x xs later k (le_of_suc-le-suc h) in
    omega (arith, counted x xs p (omega arith), beyond_count x xs p later k (le_of_suc-le-suc h) l)

tenths_rise : (m n : ℕ) → m ≤ n → Dec (m ≤ 99) → Dec (n ≤ 99) → tenths_of_percent m ≤ tenths_of_percent n
unfolding tenths_of_percent
tenths_rise m n h (yes i) (yes j) = rw (le-leb m 99 i, le-leb n 99 j) (omega arith)
tenths_rise m n h (yes i) (no j) = rw (le-leb m 99 i, lt-leb n 99 (omega arith)) (omega arith)
tenths_rise m n h (no i) (yes j) = absurd (omega arith)
tenths_rise m n h (no i) (no j) = rw (lt-leb m 99 (omega arith), lt-leb n 99 (omega arith)) (omega arith)

-- entry k, counted from 0, has the probability tenths_of_percent (k + 1)
pub record Greatest (p d : ℕ) : Type 0 where
  pub place : ℕ
  pub is : d ≡ tenths_of_percent place
  pub within : place ≤ 108
  pub not_above_lem : (k : ℕ) → k < place → 10 * get_or table k 0 ≤ p
  pub greatest : (k : ℕ) → k < 108 → 10 * get_or table k 0 ≤ p → tenths_of_percent (suc k) ≤ d

pub damage_is_greatest : (p : ℕ) → Greatest p (damage (pos p))
unfolding damage
damage_is_greatest p =
    record {
      place = not_above table p;
      is = refl;
      within = table_count p;
      not_above_lem = within_count 266 table p table_rises;
      greatest = λ k h l. tenths_rise (suc k) (not_above table p) (beyond_count 266 table p table_rises k (omega (arith, table_length)) l) (dec_le (suc k) 99) (dec_le (not_above table p) 99);
    }

from_counts : {m n : ℕ} → OneMore m n → n ≤ 108 → Neighbours (tenths_of_percent m) (tenths_of_percent n)
from_counts {m} {n} h l =
    let e : n ≡ m + (n - m) = omega arith in
    record { place = m; step = n - m; step_most = omega arith; within = omega arith; lower_is = refl; upper_is = ap tenths_of_percent e }

nothing_read : {q : ℕ} → q ≤ 1 → not_above table q ≡ 0
nothing_read h = none_counted 266 table _ table_rises (omega arith)

-- the damages at two ends at most 2 thousandths apart
pub neighbours : (l u : ℤ) → up l + dn u ≤ up u + dn l → up u + dn l ≤ up l + dn u + 2 → Neighbours (damage l) (damage u)
unfolding damage tenths_of_percent
neighbours (pos a) (pos b) h k =
    from_counts (one_more 266 table a b table_rises (omega arith) (omega arith)) (table_count b)
neighbours (pos a) (negsuc b) h k = absurd (omega arith)
neighbours (negsuc a) (pos b) h k =
    rw (nothing_read {q = b} (omega arith)) (from_counts {m = 0} {n = 0} (record { least = omega arith; most = omega arith }) (omega arith))
neighbours (negsuc a) (negsuc b) h k = from_counts {m = 0} {n = 0} (record { least = omega arith; most = omega arith }) (omega arith)

-- Tenths of a percent by place

pub tenths_low : {n m : ℕ} → n ≡ m → n ≤ 99 → 10 * n ≡ tenths_of_percent m
unfolding tenths_of_percent
tenths_low {n} {m} e h = rw (le-leb m 99 (omega arith)) (omega arith)

pub tenths_high : {n m : ℕ} → n ≡ m → 99 < n → 891 + n ≡ tenths_of_percent m
unfolding tenths_of_percent
tenths_high {n} {m} e h = rw (lt-leb m 99 (omega arith)) (omega arith)

-- Whole hundredths decide

unfoldable pub from_zero : ℤ → ℕ
from_zero (pos p) = p
from_zero (negsuc n) = 0

pub damage_from_zero : (z : ℤ) → tenths_of_percent (not_above table (from_zero z)) ≡ damage z
unfolding damage from_zero
damage_from_zero (pos p) = refl
damage_from_zero (negsuc n) = sym (before_table {p = 0} (omega arith))

same_test : (x p : ℕ) → Dec (10 * x ≤ p) → leb (10 * x) p ≡ leb x (p / 10)
same_test x p (yes h) = le-leb (10 * x) p h ∙ sym (le-leb x (p / 10) (omega arith))
same_test x p (no h) = lt-leb (10 * x) p (omega arith) ∙ sym (lt-leb x (p / 10) (omega arith))

same_count : (xs : List ℕ) (p q : ℕ) → p / 10 ≡ q / 10 → not_above xs p ≡ not_above xs q
same_count [] p q e = refl
same_count (x ∷ xs) p q e =
    let t : leb (10 * x) p ≡ leb (10 * x) q = same_test x p (dec_le (10 * x) p) ∙ ap (leb x) e ∙ sym (same_test x q (dec_le (10 * x) q)) in
    rw (t, same_count xs p q e) refl

pub same_hundredths : (p q : ℤ) → from_zero p / 10 ≡ from_zero q / 10 → damage p ≡ damage q
same_hundredths p q e =
    sym (damage_from_zero p) ∙ ap tenths_of_percent (same_count table (from_zero p) (from_zero q) e) ∙ damage_from_zero q
