pub mod Numbers
pub mod Keeps
pub mod Later
pub mod Steps
