pub mod Records
pub mod Seen
pub mod Kept
