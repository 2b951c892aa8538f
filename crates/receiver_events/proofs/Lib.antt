pub mod Frames
pub mod Leading
pub mod Coming
pub mod Receiving
pub mod Reopening
