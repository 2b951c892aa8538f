pub mod Reading
pub mod Words
pub mod Properties
pub mod Item
pub mod Writing
pub mod Told
