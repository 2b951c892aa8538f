pub mod Line
pub mod Feed
pub mod Queue
pub mod Attempts
