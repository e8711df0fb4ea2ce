pub mod Quads
pub mod Word
pub mod Stages
