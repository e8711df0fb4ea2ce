pub mod Digits
pub mod Meets
