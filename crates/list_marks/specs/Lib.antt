pub mod Digest
pub mod Limits
