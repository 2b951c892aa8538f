pub mod Worlds
pub mod Quiet
pub mod Newsroom
pub mod Receiving
pub mod Systems
