mod Journals
mod Emptied
mod Packed
mod Pairing
mod Rows
mod Judging
mod Sides
mod Heads
mod Stops
mod Placed
pub mod WereRead
mod Sizes
mod Ordering
mod Chains
mod Reread
mod Filled
mod PackLog
pub mod Undamaged
pub mod Finding
