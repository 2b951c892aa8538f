pub mod Input
pub mod Answers
pub mod Run
pub mod Status
