pub mod Comparing
pub mod Agreeing
pub mod Filling
