mod Terms
mod Codes
mod Adding
mod Meeting
mod AddingUp
mod Multiples
mod Subtracting
mod Counting
mod Divisors
mod Acting
mod Loading
pub mod Mapping
pub mod Lines
pub mod Prolonging
pub mod Renaming
mod Standing
mod Turning
