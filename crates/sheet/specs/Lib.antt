pub mod Reading
pub mod Places
pub mod Sheet
pub mod Writing
pub mod Trip
