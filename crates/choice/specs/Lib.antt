pub mod Choice
pub mod Unnamed
