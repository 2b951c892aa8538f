mod Named
mod Jobs
mod Answering
pub mod Seen
mod Exchanges
pub mod Passing
mod Rounds
pub mod Tallies
