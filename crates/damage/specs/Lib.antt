-- Table 3: the reading to believe, and laws.
pub mod Damage
pub mod laws
