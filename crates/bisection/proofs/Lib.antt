pub mod Middle
pub mod Bisection
