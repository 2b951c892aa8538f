pub mod Spots
pub mod Numbers
pub mod Found
pub mod Named
pub mod Added
pub mod Alike
pub mod Allowed
