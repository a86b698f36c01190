-- Table 3 of the data: 108 entries, rising, and its readings.
use Rattle.std.specs.Prelude.{ℕ, ◌+◌, ◌*◌, ◌-◌, Bool, List, if◌then◌else◌, ◌==◌, nat_le, slice_get}
use Rattle.std.specs.List.{prefix_len}
use Rattle.std.specs.Option.{option_map_or}
use Rattle.vectors.specs.declared.table.Entry.{Entry}

-- whether a raised probit reaches an entry of Table 3 in hundredths
abbrev pub reached : (hundredths probit : ℕ) → Bool
reached hundredths probit = nat_le (200000 + 10 * hundredths) probit

-- how many entries are reached, from the first on
abbrev pub rank : (probit : ℕ) (table : List Entry) → ℕ
rank probit table = prefix_len (λ (e : Entry). reached e.hundredths probit) table

-- the tenths of the last entry that is reached, 0 where none is
abbrev pub tenths_at : (table : List Entry) (rank : ℕ) → ℕ
tenths_at table n = if n == 0 then 0 else option_map_or (λ (e : Entry). e.tenths) (slice_get table (n - 1)) 0
