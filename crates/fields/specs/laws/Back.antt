-- A frame is that of its own fields, and a case with its fields in their values is that of its own frame. Assumes nothing.
use Rattle.std.specs.Prelude.{ℕ, ◌≤◌, ◌≡◌, refl, Bool, true, false, cond, List, [], ◌++◌, T, eqb, length, take}
use Rattle.std.proofs.Common.{sym, ap, ◌∙◌, append-nil, lt_of_le_of_lt, arith, lit<, eqb-true, eq-eqb, ne_eqb}
use Rattle.std.proofs.Math.Pow.{are_bytes}
use Rattle.byte_numbers.specs.Numbers.{one_at, two_at, one, two, four}
use Rattle.byte_numbers.specs.laws.Back.{one_back, two_back, four_back, one_read, two_read, four_read, listed, as_listed, append_bytes, one_bytes, two_bytes, four_bytes}
use Rattle.guidance.specs.declared.Case.{Case}
use Rattle.guidance.specs.AirPressure.{standard, in_air}
use Rattle.guidance.specs.Cases.{Fields}
use Rattle.fields.specs.Bytes.{air_in, fields_of, settings, first_bytes, air_bytes, frame_bytes, long_frame}

-- how long a frame is

pub first_length : (c : Case) → length (first_bytes c) ≡ 22
unfolding first_bytes settings one two four
first_length c = refl

pub frame_length_lem : (c : Case) → length (frame_bytes c) ≡ cond (eqb c.air standard) 22 24
unfolding frame_bytes air_bytes first_bytes settings one two four
frame_length_lem c = go (eqb c.air standard)
  where
    go : (b : Bool) → length (first_bytes c ++ cond b [] (two c.air)) ≡ cond b 22 24
    go true = refl
    go false = refl

pub standard_length : (c : Case) → c.air ≡ standard → length (frame_bytes c) ≡ 22
standard_length c e = frame_length_lem c ∙ simp (eq-eqb c.air standard e)

pub other_length : (c : Case) → (c.air ≡ standard → ⊥) → length (frame_bytes c) ≡ 24
other_length c e = frame_length_lem c ∙ simp (ne_eqb c.air standard e)

pub frame_least : (c : Case) → 22 ≤ length (frame_bytes c)
frame_least c = rw (frame_length_lem c) (go (eqb c.air standard))
  where
    go : (b : Bool) → 22 ≤ cond b 22 24
    go true = omega arith
    go false = omega arith

pub frame_most : (c : Case) → length (frame_bytes c) ≤ 24
frame_most c = rw (frame_length_lem c) (go (eqb c.air standard))
  where
    go : (b : Bool) → cond b 22 24 ≤ 24
    go true = omega arith
    go false = omega arith

-- the air pressure of a frame, by its length

pub standard_in : (frame : List ℕ) → (length frame ≡ 24 → ⊥) → air_in frame ≡ standard
unfolding air_in
standard_in frame h = simp (ne_eqb (length frame) 24 h)

pub written_in_lem : (frame : List ℕ) → length frame ≡ 24 → air_in frame ≡ two_at frame 22
unfolding air_in
written_in_lem frame h = simp (eq-eqb (length frame) 24 h)

-- and its bytes

none_written : {air : ℕ} → air ≡ standard → air_bytes air ≡ []
unfolding air_bytes
none_written {air} e = simp (eq-eqb air standard e)

two_written : {air : ℕ} → (air ≡ standard → ⊥) → air_bytes air ≡ two air
unfolding air_bytes
two_written {air} e = simp (ne_eqb air standard e)

pub standard_frame : (c : Case) → c.air ≡ standard → frame_bytes c ≡ first_bytes c
unfolding frame_bytes
standard_frame c e = ap (λ (l : List ℕ). first_bytes c ++ l) (none_written e) ∙ append-nil (first_bytes c)

pub other_frame : (c : Case) → (c.air ≡ standard → ⊥) → frame_bytes c ≡ first_bytes c ++ two c.air
unfolding frame_bytes
other_frame c e = ap (λ (l : List ℕ). first_bytes c ++ l) (two_written e)

-- the frame in 24 bytes: its own, filled where that has 22

pub long_length : (c : Case) → length (long_frame c) ≡ 24
unfolding long_frame first_bytes settings one two four
long_length c = refl

pub standard_filled : (c : Case) → c.air ≡ standard → long_frame c ≡ frame_bytes c ++ two standard
unfolding long_frame
standard_filled c e = λ k. sym (standard_frame c e) k ++ two (e k)

pub other_filled : (c : Case) → (c.air ≡ standard → ⊥) → long_frame c ≡ frame_bytes c
unfolding long_frame
other_filled c e = sym (other_frame c e)

-- all are bytes

pub settings_read : (s : List ℕ) → T (are_bytes s) → settings (one_at s 0) (one_at s 1) (one_at s 2) (one_at s 3) ≡ listed 4 (one_at s)
unfolding settings
settings_read s h = λ k. one_read s 0 h k ++ one_read s 1 h k ++ one_read s 2 h k ++ one_read s 3 h k

pub settings_bytes : (a b c d : ℕ) → T (are_bytes (settings a b c d))
unfolding settings
settings_bytes a b c d =
    append_bytes (one a ++ one b ++ one c) (one d) (append_bytes (one a ++ one b) (one c) (append_bytes (one a) (one b) (one_bytes a) (one_bytes b)) (one_bytes c)) (one_bytes d)

first_bytes_lem : (c : Case) → T (are_bytes (first_bytes c))
unfolding first_bytes
first_bytes_lem c =
    let a = settings c.substance c.state c.placement c.surroundings in
    let b = a ++ four c.mass in
    let d = b ++ two c.mean in
    let e = d ++ two c.stoichiometric in
    let f = e ++ four c.heat in
    let g = f ++ four c.distance in
    append_bytes g (two c.body)
    (append_bytes f (four c.distance)
    (append_bytes e (four c.heat)
    (append_bytes d (two c.stoichiometric)
    (append_bytes b (two c.mean)
    (append_bytes a (four c.mass) (settings_bytes c.substance c.state c.placement c.surroundings) (four_bytes c.mass))
    (two_bytes c.mean))
    (two_bytes c.stoichiometric))
    (four_bytes c.heat))
    (four_bytes c.distance))
    (two_bytes c.body)

pub frame_bytes_lem : (c : Case) → T (are_bytes (frame_bytes c))
unfolding frame_bytes air_bytes
frame_bytes_lem c = append_bytes (first_bytes c) (air_bytes c.air) (first_bytes_lem c) (go (eqb c.air standard))
  where
    go : (b : Bool) → T (are_bytes (cond b [] (two c.air)))
    go true = tt
    go false = two_bytes c.air

-- a frame of 22 bytes, and one of 24 with another pressure than the standard one, is that of its fields

firsts : (frame : List ℕ) → T (are_bytes frame) → first_bytes (fields_of frame) ≡ listed 22 (one_at frame)
unfolding first_bytes fields_of
firsts frame h =
    λ k. settings_read frame h k ++ four_read frame 4 h k ++ two_read frame 8 h k ++ two_read frame 10 h k ++ four_read frame 12 h k ++ four_read frame 16 h k ++ two_read frame 20 h k

pub air_of_fields : (frame : List ℕ) → (fields_of frame).air ≡ air_in frame
unfolding fields_of
air_of_fields frame = refl

module _ (frame : List ℕ) (h : T (are_bytes frame)) where
  pub frame_again : length frame ≡ 22 → frame_bytes (fields_of frame) ≡ frame
  frame_again n =
      standard_frame (fields_of frame) (air_of_fields frame ∙ standard_in frame (λ e. omega arith)) ∙ firsts frame h ∙ sym (as_listed 22 frame n)

  pub longer_again : length frame ≡ 24 → (air_in frame ≡ standard → ⊥) → frame_bytes (fields_of frame) ≡ frame
  longer_again n a =
      other_frame (fields_of frame) (λ e. a (sym (air_of_fields frame) ∙ e))
      ∙ (λ k. firsts frame h k ++ two ((air_of_fields frame ∙ written_in_lem frame n) k))
      ∙ ap (λ (l : List ℕ). listed 22 (one_at frame) ++ l) (two_read frame 22 h)
      ∙ sym (as_listed 24 frame n)

  -- one of 24 with the standard pressure comes to its first 22
  pub shorter_again : length frame ≡ 24 → air_in frame ≡ standard → frame_bytes (fields_of frame) ≡ take 22 frame
  shorter_again n a = standard_frame (fields_of frame) (air_of_fields frame ∙ a) ∙ firsts frame h ∙ sym (ap (take 22) (as_listed 24 frame n))

-- what is written is read

-- the first 22 bytes, whatever stands behind them
pub fields_in_air : (c : Case) → Fields c → (rest : List ℕ) → in_air (fields_of (first_bytes c ++ rest)) c.air ≡ c
unfolding in_air first_bytes fields_of settings one two four
fields_in_air c f rest =
    λ k. record {
      substance = one_back c.substance (lt_of_le_of_lt f.substance (lit< tt)) k;
      state = one_back c.state (lt_of_le_of_lt f.state (lit< tt)) k;
      placement = one_back c.placement (lt_of_le_of_lt f.placement (lit< tt)) k;
      surroundings = one_back c.surroundings (lt_of_le_of_lt f.surroundings_most (lit< tt)) k;
      mass = four_back c.mass (lt_of_le_of_lt f.mass_most (lit< tt)) k;
      mean = two_back c.mean (lt_of_le_of_lt f.mean_most (lit< tt)) k;
      stoichiometric = two_back c.stoichiometric (lt_of_le_of_lt f.stoichiometric_most (lit< tt)) k;
      heat = four_back c.heat (lt_of_le_of_lt f.heat_most (lit< tt)) k;
      distance = four_back c.distance (lt_of_le_of_lt f.distance_most (lit< tt)) k;
      body = two_back c.body (lt_of_le_of_lt f.body_most (lit< tt)) k;
      air = c.air;
    }

in_its_own_air : (c : Case) → c ≡ in_air c c.air
unfolding in_air
in_its_own_air c = refl

with_air : (c : Case) → Fields c → (air : List ℕ) → air_in (first_bytes c ++ air) ≡ c.air → fields_of (first_bytes c ++ air) ≡ c
with_air c f air e = let d = fields_of (first_bytes c ++ air) in in_its_own_air d ∙ ap (in_air d) (air_of_fields (first_bytes c ++ air) ∙ e) ∙ fields_in_air c f air

none_read : (c : Case) → air_in (first_bytes c ++ []) ≡ standard
unfolding air_in first_bytes settings one two four
none_read c = refl

two_again : (c : Case) → Fields c → air_in (first_bytes c ++ two c.air) ≡ c.air
unfolding air_in first_bytes settings one two four
two_again c f = two_back c.air (lt_of_le_of_lt f.air_most (lit< tt))

pub fields_again : (c : Case) → Fields c → fields_of (frame_bytes c) ≡ c
unfolding frame_bytes air_bytes
fields_again c f = go (eqb c.air standard) refl
  where
    go : (b : Bool) → eqb c.air standard ≡ b → fields_of (first_bytes c ++ cond b [] (two c.air)) ≡ c
    go true e = with_air c f [] (none_read c ∙ sym (eqb-true c.air standard e))
    go false e = with_air c f (two c.air) (two_again c f)

pub long_again : (c : Case) → Fields c → fields_of (long_frame c) ≡ c
unfolding long_frame
long_again c f = with_air c f (two c.air) (two_again c f)
