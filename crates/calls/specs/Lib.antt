pub mod Logs
pub mod Told
