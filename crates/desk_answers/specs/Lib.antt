pub mod Words
pub mod Members
pub mod Seen
pub mod Answers
