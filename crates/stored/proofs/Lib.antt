pub mod Errors
pub mod Records
pub mod Rowing
pub mod Showing
pub mod Texts
pub mod Writing
