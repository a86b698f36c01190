-- The windows of the intervals: how wide one may be, relative and in 2^-30, and between which exponents it lies.
-- An exponent e stands for an upper end from 2^(e - 994) to 2^(e - 993).
use Rattle.std.specs.Prelude.{ℕ}

pub record Window : Type 0 where
  pub width : ℕ
  pub least : ℕ
  pub most : ℕ

-- E: from 2^-17 to 2^67 J
abbrev pub energy_window : Window
energy_window = record { width = 11; least = 977; most = 1060 }

-- P0^(2/3): from 2^9 to 2^13
abbrev pub air_power_window : Window
air_power_window = record { width = 45; least = 1003; most = 1006 }

-- E^(1/3): from 2^-7 to 2^26
abbrev pub energy_root_window : Window
energy_root_window = record { width = 41; least = 987; most = 1019 }

-- Rx: from 2^-33 to 2^43
abbrev pub distance_window : Window
distance_window = record { width = 55; least = 961; most = 1036 }

-- Px of a detonation: from 2^-17 to 2^7
abbrev pub detonation_pressure_window : Window
detonation_pressure_window = record { width = 420; least = 977; most = 1000 }

-- Ix of a detonation: from 2^-15 to 2^5
abbrev pub detonation_impulse_window : Window
detonation_impulse_window = record { width = 180; least = 979; most = 998 }

-- Px of a deflagration: from 2^-26 to 2^4
abbrev pub deflagration_pressure_window : Window
deflagration_pressure_window = record { width = 813; least = 968; most = 997 }

-- Ix of a deflagration: from 2^-24 to 2^1
abbrev pub deflagration_impulse_window : Window
deflagration_impulse_window = record { width = 1455; least = 970; most = 994 }

-- the smaller of a and b, of which a is the wider and may be the less
abbrev pub smaller_window : (a b : Window) → Window
smaller_window a b = record { width = a.width; least = a.least; most = b.most }

-- Px and Ix
abbrev pub reduced_pressure_window : Window
reduced_pressure_window = smaller_window deflagration_pressure_window detonation_pressure_window

abbrev pub reduced_impulse_window : Window
reduced_impulse_window = smaller_window deflagration_impulse_window detonation_impulse_window

-- ΔP: within 0.8 millionths of itself, from 2^-11 to 2^25 Pa
abbrev pub pressure_window : Window
pressure_window = record { width = 817; least = 983; most = 1018 }

-- I: within 1.5 millionths of itself, from 2^-31 to 2^25 Pa·s
abbrev pub impulse_window : Window
impulse_window = record { width = 1550; least = 963; most = 1018 }
