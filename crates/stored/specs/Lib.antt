pub mod Faults
pub mod Text
pub mod Stored
pub mod Record
pub mod Leader
pub mod Rows
pub mod Show
