pub mod Refusals
pub mod Ranges
pub mod Slots
pub mod Says
