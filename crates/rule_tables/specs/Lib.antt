pub mod Sources
pub mod Keeps
pub mod Asked
pub mod Steps
pub mod Releases
pub mod Routed
pub mod Listed
