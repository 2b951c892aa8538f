pub mod Keys
pub mod Spots
pub mod Places
pub mod Facts
pub mod Keeps
pub mod Asked
pub mod Steps
