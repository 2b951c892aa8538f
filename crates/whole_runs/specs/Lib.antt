pub mod Reading
pub mod Output
pub mod Importing
pub mod Packaging
