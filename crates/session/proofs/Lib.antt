pub mod Asking
pub mod Putting
pub mod Turning
pub mod Lives
pub mod Midway
pub mod Pages
