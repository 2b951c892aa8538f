pub mod Steps
pub mod Exchanges
pub mod Rounds
pub mod Tallies
