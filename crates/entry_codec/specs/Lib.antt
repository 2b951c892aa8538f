pub mod Spelling
pub mod Fits
pub mod Formed
pub mod Passing
pub mod Reading
pub mod Commands
pub mod Answers
