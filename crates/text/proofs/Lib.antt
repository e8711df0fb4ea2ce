pub mod Streams
pub mod Overlays
pub mod Written
pub mod Runs
