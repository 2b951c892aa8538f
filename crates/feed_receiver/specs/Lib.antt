pub mod Spelling
pub mod Formats
pub mod Reads
pub mod Laws
pub mod Feed
pub mod Takes
pub mod Holds
