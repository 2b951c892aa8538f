pub mod Lines
pub mod Moving
pub mod Receipts
pub mod Replying
