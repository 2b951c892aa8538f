pub mod Calls
pub mod Views
pub mod Rules
pub mod Passes
pub mod Locks
pub mod Going
