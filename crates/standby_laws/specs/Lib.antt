pub mod Standby
pub mod Following
pub mod Law
pub mod WrongStandbys
pub mod Example
