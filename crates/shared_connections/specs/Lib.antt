pub mod Fits
pub mod Turns
pub mod Passes
pub mod Connections
