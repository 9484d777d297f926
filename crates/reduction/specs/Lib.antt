pub mod Table
pub mod Agreement
pub mod Search
pub mod Subtraction
pub mod Merging
pub mod Reducing
