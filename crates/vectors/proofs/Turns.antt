-- One turn of the loops over a vector's seven values. Assumes nothing.
use Rattle.std.proofs.Common.{◌≡◌, ℕ, suc, ◌+◌, ◌-◌, ◌≤◌, ◌<◌, Bool, true, false, List, ap, ◌∙◌, arith}
use Rattle.scan.specs.Words.{lead_of, value_of, after_word}
use Rattle.vectors.specs.declared.table.Entry.{Entry}
use Rattle.vectors.specs.Figures.{right}
use Rattle.vectors.specs.Judging.{after_words, figures_right}

one_left : {n i : ℕ} → i < n → n - i ≡ suc (n - (i + 1))
one_left h = omega arith

none_left : {n i : ℕ} → n ≤ i → n - i ≡ 0
none_left h = omega arith

pub one_passed : (text : List ℕ) (i : ℕ) → i < 7 → after_words (7 - i) text ≡ after_words (7 - (i + 1)) (after_word text)
unfolding after_words
one_passed text i h = ap (λ (k : ℕ). after_words k text) (one_left h)

pub all_passed : (text : List ℕ) (i : ℕ) → 7 ≤ i → after_words (7 - i) text ≡ text
unfolding after_words
all_passed text i h = ap (λ (k : ℕ). after_words k text) (none_left h)

-- the figures from the i-th on, by the text's first word and whether the i-th is right
module _ (text area : List ℕ) (table : List Entry) (i : ℕ) where
  module _ {lead value : ℕ} {answer : Bool} (h : i < 7) (l : lead ≡ lead_of text) (v : value ≡ value_of text) (r : answer ≡ right area i lead value table) where
    pub this_right : answer ≡ true → figures_right (7 - i) i text area table ≡ figures_right (7 - (i + 1)) (i + 1) (after_word text) area table
    unfolding figures_right
    this_right e =
        let good : right area i (lead_of text) (value_of text) table ≡ true = cc in
        ap (λ (k : ℕ). figures_right k i text area table) (one_left h) ∙ simp good

    pub this_wrong : answer ≡ false → figures_right (7 - i) i text area table ≡ false
    unfolding figures_right
    this_wrong e =
        let bad : right area i (lead_of text) (value_of text) table ≡ false = cc in
        ap (λ (k : ℕ). figures_right k i text area table) (one_left h) ∙ simp bad

  pub all_right : 7 ≤ i → figures_right (7 - i) i text area table ≡ true
  unfolding figures_right
  all_right h = ap (λ (k : ℕ). figures_right k i text area table) (none_left h)
