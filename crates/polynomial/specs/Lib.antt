pub mod Polynomial
pub mod Check
pub mod Bytes
pub mod Reading
pub mod Words
