pub mod Report
pub mod Lines
pub mod Cut
pub mod Asked
pub mod Counted
pub mod Files
pub mod Output
