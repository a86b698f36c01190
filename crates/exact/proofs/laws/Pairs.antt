-- Operations over all pairs of ends, outward.
-- `pairs_hold` is the inclusion property and `pairs_isotone` inclusion isotony, both once for every such operation.
-- Assumes nothing.
use Rattle.exact.specs.laws.Pairs.{◌⊆◌}
use Rattle.exact.specs.Fraction.{Frac, ◌⊑◌, zero_f, ◌⊞◌, ◌⊟◌, ◌⊠◌, Positive, inverse}
use Rattle.exact.specs.Bracket.{outward, smaller, larger, Bracket, over_pairs, quotients}
use Rattle.exact.specs.laws.Decide.{dec_f}
use Rattle.exact.proofs.laws.Frac.{scale_mono, inverse_anti, ⊑_refl, ⊑_trans, ⊞-mono, ⊟-mono, ⊠-mono, ⊠-anti, ⊠-comm, smaller_left, smaller_right, larger_left, larger_right, smaller_glb, larger_lub}
use Rattle.exact.specs.laws.Decide.{⊑-total}
use Rattle.exact.specs.Holding.{◌∈◌}

-- x/y
abbrev pub quotient : (x y : Frac) → Positive y → Frac
quotient x y h = x ⊠ inverse y h

-- x lies between u and v, whichever is the smaller
pub record Between (x u v : Frac) : Type 0 where
  pub above : smaller u v ⊑ x
  pub below : x ⊑ larger u v

-- `op` rises or falls in each argument
pub record Monotone (op : Frac → Frac → Frac) : Type 0 where
  pub left : {a p b : Frac} (q : Frac) → a ⊑ p → p ⊑ b → Between (op p q) (op a q) (op b q)
  pub right : (p : Frac) {a q b : Frac} → a ⊑ q → q ⊑ b → Between (op p q) (op p a) (op p b)

rising : {x u v : Frac} → u ⊑ x → x ⊑ v → Between x u v
rising {x} {u} {v} h k = record { above = ⊑_trans (smaller_left u v) h; below = ⊑_trans k (larger_right u v) }

falling : {x u v : Frac} → v ⊑ x → x ⊑ u → Between x u v
falling {x} {u} {v} h k = record { above = ⊑_trans (smaller_right u v) h; below = ⊑_trans k (larger_left u v) }

smaller_mono : {a b c d : Frac} → a ⊑ c → b ⊑ d → smaller a b ⊑ smaller c d
smaller_mono {a} {b} h k = smaller_glb (⊑_trans (smaller_left a b) h) (⊑_trans (smaller_right a b) k)

larger_mono : {a b c d : Frac} → a ⊑ c → b ⊑ d → larger a b ⊑ larger c d
larger_mono {c = c} {d = d} h k = larger_lub (⊑_trans h (larger_left c d)) (⊑_trans k (larger_right c d))

-- The five operations

pub ⊞-monotone : Monotone ◌⊞◌
⊞-monotone =
    record {
      left = λ q h k. rising (⊞-mono h (⊑_refl q)) (⊞-mono k (⊑_refl q));
      right = λ p h k. rising (⊞-mono (⊑_refl p) h) (⊞-mono (⊑_refl p) k);
    }

pub ⊟-monotone : Monotone ◌⊟◌
⊟-monotone =
    record {
      left = λ q h k. rising (⊟-mono h (⊑_refl q)) (⊟-mono k (⊑_refl q));
      right = λ p h k. falling (⊟-mono (⊑_refl p) k) (⊟-mono (⊑_refl p) h);
    }

pub smaller_monotone : Monotone smaller
smaller_monotone =
    record {
      left = λ q h k. rising (smaller_mono h (⊑_refl q)) (smaller_mono k (⊑_refl q));
      right = λ p h k. rising (smaller_mono (⊑_refl p) h) (smaller_mono (⊑_refl p) k);
    }

⊠-anti' : {x y : Frac} (z : Frac) → z ⊑ zero_f → x ⊑ y → z ⊠ y ⊑ z ⊠ x
⊠-anti' {x} {y} z n h = ⊑_trans (⊠-comm z y) (⊑_trans (⊠-anti z n h) (⊠-comm x z))

pub ⊠-monotone : Monotone ◌⊠◌
⊠-monotone =
    record {
      left = λ q h k. left q h k (dec_f zero_f q);
      right = λ p h k. right p h k (dec_f zero_f p);
    }
  where
    left : {a p b : Frac} (q : Frac) → a ⊑ p → p ⊑ b → Dec (zero_f ⊑ q) → Between (p ⊠ q) (a ⊠ q) (b ⊠ q)
    left q h k (yes n) = rising (⊠-mono q n h) (⊠-mono q n k)
    left q h k (no n) = let z = ⊑-total zero_f q n in falling (⊠-anti q z k) (⊠-anti q z h)

    right : (p : Frac) {a q b : Frac} → a ⊑ q → q ⊑ b → Dec (zero_f ⊑ p) → Between (p ⊠ q) (p ⊠ a) (p ⊠ b)
    right p h k (yes n) = rising (scale_mono n h) (scale_mono n k)
    right p h k (no n) = let z = ⊑-total zero_f p n in falling (⊠-anti' p z k) (⊠-anti' p z h)

-- Inclusion

pub pairs_hold : {op : Frac → Frac → Frac} → Monotone op → {p q : Frac} {A B : Bracket} → p ∈ A → q ∈ B → op p q ∈ over_pairs op A B
unfolding over_pairs
pairs_hold M {p} {q} {A} {B} h k =
    record {
      above =
          ⊑_trans
          (smaller_mono (M.right A.lo k.above k.below).above (M.right A.hi k.above k.below).above)
          (M.left q h.above h.below).above;
      below =
          ⊑_trans (M.left q h.above h.below).below
          (larger_mono (M.right A.lo k.above k.below).below (M.right A.hi k.above k.below).below);
    }

-- the same for the quotient: one over the divisor's ends are the ends of a bracket, the other way round
smaller_swap : (x y : Frac) → smaller x y ⊑ smaller y x
smaller_swap x y = smaller_glb (smaller_right x y) (smaller_left x y)

larger_swap : (x y : Frac) → larger x y ⊑ larger y x
larger_swap x y = larger_lub (larger_right y x) (larger_left y x)

pub quotients_hold : {p q : Frac} {A B : Bracket} → p ∈ A → q ∈ B → (z : Positive q) (h : Positive B.lo) (k : Positive B.hi)
    → quotient p q z ∈ quotients A B h k
unfolding quotients over_pairs
quotients_hold {B = B} i j z h k =
    let r =
    pairs_hold ⊠-monotone {B = record { lo = inverse B.hi k; hi = inverse B.lo h }} i
    (record { above = inverse_anti z k j.below; below = inverse_anti h z j.above }) in
    record {
      above = ⊑_trans (smaller_mono (smaller_swap _ _) (smaller_swap _ _)) r.above;
      below = ⊑_trans r.below (larger_mono (larger_swap _ _) (larger_swap _ _));
    }

-- an end of a bracket that lies inside another lies in it
pub lo_in : {A I : Bracket} → A ⊆ I → A.lo ⊑ A.hi → A.lo ∈ I
lo_in h w = record { above = h.above; below = ⊑_trans w h.below }

pub hi_in : {A I : Bracket} → A ⊆ I → A.lo ⊑ A.hi → A.hi ∈ I
hi_in h w = record { above = ⊑_trans h.above w; below = h.below }

-- four results in K
pub outward_in : {a b c d : Frac} {K : Bracket} → a ∈ K → b ∈ K → c ∈ K → d ∈ K → outward a b c d ⊆ K
outward_in h i j k =
    record {
      above = smaller_glb (smaller_glb h.above i.above) (smaller_glb j.above k.above);
      below = larger_lub (larger_lub h.below i.below) (larger_lub j.below k.below);
    }

-- inclusion isotony: containment of the arguments carries to the result
pub pairs_isotone : {op : Frac → Frac → Frac} → Monotone op → {A B I J : Bracket} → A.lo ⊑ A.hi → B.lo ⊑ B.hi
    → A ⊆ I → B ⊆ J → over_pairs op A B ⊆ over_pairs op I J
unfolding over_pairs
pairs_isotone M {A} {B} {I} {J} v w h k =
    let a = lo_in h v in
    let b = hi_in h v in
    let c = lo_in k w in
    let d = hi_in k w in
    outward_in (pairs_hold M a c) (pairs_hold M a d) (pairs_hold M b c) (pairs_hold M b d)
