pub mod Monomial
pub mod Order
pub mod Digits
pub mod Division
pub mod Lists
pub mod Orders
pub mod Places
pub mod Divisions
