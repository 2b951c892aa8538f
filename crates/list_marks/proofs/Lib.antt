pub mod Writing
pub mod Hashing
pub mod Order
pub mod Apart
pub mod Counted
pub mod Pages
