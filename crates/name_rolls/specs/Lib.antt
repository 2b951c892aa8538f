pub mod Rolls
pub mod Keeps
pub mod Steps
