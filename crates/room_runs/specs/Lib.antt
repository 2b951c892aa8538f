pub mod Texts
pub mod Lines
pub mod Desk
pub mod Leaving
pub mod Life
pub mod Members
pub mod Batch
pub mod Wires
