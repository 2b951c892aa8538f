pub mod Sorts
pub mod Given
