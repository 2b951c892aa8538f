pub mod Parts
pub mod Sizes
pub mod Runs
pub mod Ahead
pub mod Undecided
pub mod Messages
