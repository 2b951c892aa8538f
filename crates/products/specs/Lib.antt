pub mod Keeps
pub mod Asked
pub mod Steps
