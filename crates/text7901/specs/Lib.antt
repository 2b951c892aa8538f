pub mod Fields
pub mod Wire
pub mod Machine
pub mod State
pub mod Gives
pub mod Limits
pub mod Held
pub mod Written
