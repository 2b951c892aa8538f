pub mod Lists
pub mod Told
pub mod Numbers
pub mod Places
pub mod Steps
