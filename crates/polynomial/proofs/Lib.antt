pub mod Checking
pub mod Codec
