pub mod Decided
pub mod Members
pub mod Passing
pub mod Reading
