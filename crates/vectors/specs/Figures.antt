-- When a figure of an answer is right by the value of the data (document 01, "The answer frame", "Probits and damage"; request 10).
use Rattle.std.specs.Prelude.{ℕ, ◌+◌, ◌*◌, ◌-◌, Bool, ◌&&◌, List, if◌then◌else◌, ◌==◌, nat_le, nat_lt}
use Rattle.byte_numbers.specs.Numbers.{two_at, four_at}
use Rattle.vectors.specs.declared.table.Entry.{Entry}
use Rattle.vectors.specs.Table.{rank, tenths_at}

-- lower ≤ value ≤ upper: the ends count units, the value counts parts of which a unit has `unit`
abbrev pub contained : (lower upper value unit : ℕ) → Bool
contained lower upper value unit = nat_le (lower * unit) value && nat_le value (upper * unit)

-- the width of a pressure or an impulse: 100,000 × (upper - lower) is at most 200,000 + lower
abbrev pub closed : (lower upper : ℕ) → Bool
closed lower upper = nat_le (100000 * upper) (200000 + lower + 100000 * lower)

-- a pressure or an impulse, with twelve places of the value
abbrev pub wave_right : (lower upper value : ℕ) → Bool
wave_right lower upper value = contained lower upper value 1000000000000 && closed lower upper

-- a word in two's complement and 200,000 more, so that a probit's thousandths are never below zero
abbrev pub raised_word : ℕ → ℕ
raised_word w = if nat_lt w 2147483648 then w + 200000 else (w + 200000) - 4294967296

-- a number of the data behind its sign, a minus or none, and `base` more
abbrev pub raised : (base lead value : ℕ) → ℕ
raised base lead value = if lead == 45 then base - value else base + value

-- a probit in raised thousandths, of which the ends are at most 2 apart
abbrev pub probit_right : (lower upper value : ℕ) → Bool
probit_right lower upper value = contained lower upper value 1000000000 && nat_le upper (lower + 2)

-- two damages: the readings at a probit's raised ends; at ends that are 2 apart at most they are the same or neighbours
abbrev pub damage_right : (first second lower upper : ℕ) (table : List Entry) → Bool
damage_right first second lower upper table = first == tenths_at table (rank lower table) && second == tenths_at table (rank upper table)

-- the i-th figure of an answer from 0 on, in the order of the data: pressure, impulse, five probits with their damages
unfoldable pub right : (area : List ℕ) (i lead value : ℕ) (table : List Entry) → Bool
right area i lead value table =
    if nat_lt i 2
    then wave_right (four_at area (1 + 8 * i)) (four_at area (5 + 8 * i)) value
    else
    (probit_right (raised_word (four_at area (1 + 8 * i))) (raised_word (four_at area (5 + 8 * i))) (raised 200000000000000 lead value)
    && damage_right
    (two_at area (49 + 4 * i))
    (two_at area (51 + 4 * i))
    (raised_word (four_at area (1 + 8 * i)))
    (raised_word (four_at area (5 + 8 * i)))
    table)
