pub mod Order
pub mod Added
pub mod Kept
