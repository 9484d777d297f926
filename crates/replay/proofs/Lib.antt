pub mod Acting
pub mod Makings
pub mod Onces
pub mod Openings
pub mod Unnamings
pub mod Playing
pub mod Rooms
pub mod Steppings
