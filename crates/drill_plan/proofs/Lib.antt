pub mod Digits
pub mod Limits
pub mod Ranges
pub mod Counts
