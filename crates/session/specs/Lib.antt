pub mod Run
pub mod Seen
pub mod Midway
pub mod Desk
pub mod Ran
pub mod Page
