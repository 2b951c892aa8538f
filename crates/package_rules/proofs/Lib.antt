pub mod Packages
pub mod Retries
pub mod Texts
pub mod Walking
pub mod Finding
pub mod Publishing
