pub mod Identities
pub mod Rows
pub mod Asked
pub mod Keeps
pub mod Steps
