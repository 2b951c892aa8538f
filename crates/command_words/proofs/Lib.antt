pub mod Numbers
pub mod Identifiers
pub mod Choices
