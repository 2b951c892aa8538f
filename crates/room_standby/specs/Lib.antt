pub mod Holds
pub mod Takes
pub mod Comes
pub mod Promotes
pub mod Ships
