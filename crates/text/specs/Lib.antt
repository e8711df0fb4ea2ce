pub mod Bytes
pub mod Tokens
pub mod Reader
pub mod Scanning
pub mod Numerals
pub mod Output
pub mod Words
