pub mod Call
pub mod Cause
pub mod View
pub mod History
pub mod Law
pub mod Example
