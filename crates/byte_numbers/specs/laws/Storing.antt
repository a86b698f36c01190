-- Bytes stored one part after the other, some of them through a part of the slice, said of the whole slice. Assumes nothing.
use Rattle.std.specs.Prelude.{◌≡◌, List, [], ◌∷◌, ◌++◌, ℕ, suc, ◌+◌, ◌≤◌, length, drop, set}
use Rattle.std.proofs.Common.{sym, ap, ◌∙◌, append_assoc, append-nil, zero-add, add-zero, add-suc, suc-add, arith, length-drop, drop_of_length-le, take-append-drop, length-take-le, drop-drop}
use Rattle.std.proofs.lemmas.List.Edits.{sets, sets-eq}
use Rattle.std.proofs.lemmas.List.{drop-append-le}
use borrow.Rule.Slice.PartMut.{mid_of, post_of, put_mid}
use Rattle.byte_numbers.specs.Storing.{Stored}

-- two runs of stores, one after the other
pub sets_sets : (us : List ℕ) (l : List ℕ) (i : ℕ) (vs : List ℕ) → sets (sets l i us) (i + length us) vs ≡ sets l i (us ++ vs)
sets_sets [] l i vs = rw add-zero
sets_sets (u ∷ us) l i vs = rw (add-suc, ← suc-add) (sets_sets us (set l i u) (suc i) vs)

-- one part more, from the place after those that stand already
pub and_then : {l L M us vs : List ℕ} {a b : ℕ} → Stored l a us L → Stored L b vs M → b ≡ a + length us → Stored l a (us ++ vs) M
and_then {l} {us = us} {vs} {a} {b} s t place =
    record {
      all = t.all ∙ ap (λ (x : List ℕ). sets x b vs) s.all ∙ ap (λ (n : ℕ). sets (sets l a us) n vs) place ∙ sets_sets us l a vs;
    }

-- equal bytes
pub stored_as : {l L bs cs : List ℕ} {a : ℕ} → Stored l a bs L → bs ≡ cs → Stored l a cs L
stored_as {l} {a = a} s e = record { all = s.all ∙ ap (λ (b : List ℕ). sets l a b) e }

-- through the part of k bytes from b on: stores at its start are stores from b on
pub through_part : {L vs q : List ℕ} (b k : ℕ) → Stored (mid_of b k L) 0 vs q → length vs ≤ k → b + k ≤ length L → Stored L b vs (put_mid b k L q)
through_part {L} {vs} {q} b k s within h =
    let long : length (mid_of b k L) ≡ k = length-take-le k (drop b L) (omega (arith, length-drop b L)) in
    let part : q ≡ vs ++ drop (length vs) (mid_of b k L) = s.all ∙ sets-eq vs (mid_of b k L) 0 (omega (arith, long)) ∙ ap (λ (n : ℕ). vs ++ drop n (mid_of b k L)) (zero-add (length vs)) in
    let rest : drop (length vs) (mid_of b k L) ++ post_of b k L ≡ drop (b + length vs) L
    = sym (drop-append-le (length vs) (mid_of b k L) (post_of b k L) (omega (arith, long))) ∙ ap (drop (length vs)) (take-append-drop k (drop b L)) ∙ drop-drop (length vs) b L in
    record { all = rw (part, append_assoc, rest, sets-eq vs L b (omega arith), append_assoc) }

-- from the start on
pub at_start : (l vs : List ℕ) → length vs ≤ length l → sets l 0 vs ≡ vs ++ drop (length vs) l
at_start l vs h = sets-eq vs l 0 (rw zero-add h) ∙ ap (λ (n : ℕ). vs ++ drop n l) (zero-add (length vs))

-- over the whole of a list
pub sets_all : (l vs : List ℕ) → length vs ≡ length l → sets l 0 vs ≡ vs
sets_all l vs h = at_start l vs (omega arith) ∙ ap (λ (r : List ℕ). vs ++ r) (drop_of_length-le l {i = length vs} (omega arith)) ∙ append-nil vs

-- through a part that is written whole
pub whole_part : {L vs q : List ℕ} (b k : ℕ) → q ≡ vs → length vs ≡ k → b + k ≤ length L → Stored L b vs (put_mid b k L q)
whole_part {L} {vs} {q} b k e size h =
    let long : length (mid_of b k L) ≡ k = length-take-le k (drop b L) (omega (arith, length-drop b L)) in
    through_part b k (record { all = e ∙ sym (sets_all (mid_of b k L) vs (size ∙ sym long)) }) (omega arith) h
