pub mod Fronts
pub mod Calls
pub mod Keeps
pub mod Turns
pub mod Going
