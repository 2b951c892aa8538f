pub mod Spelling
pub mod Formats
pub mod Numerals
pub mod Reads
pub mod Laws
