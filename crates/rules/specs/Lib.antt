pub mod Answer
-- Why a figure is what it is: definitions to believe, what the private functions ask, and laws.
pub mod Words
pub mod Rules
pub mod Deciding
pub mod laws
