pub mod Turns
pub mod Life
pub mod Run
pub mod Status
pub mod Step
pub mod Members
pub mod Along
pub mod LineShelf
