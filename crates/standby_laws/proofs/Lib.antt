pub mod Lists
pub mod Following
mod WrongStandbys
pub mod Stops
