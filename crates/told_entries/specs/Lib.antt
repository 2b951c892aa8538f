pub mod Words
pub mod Members
pub mod Seen
pub mod Objects
pub mod Commands
pub mod Entries
