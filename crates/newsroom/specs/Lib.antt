pub mod Callers
pub mod Stands
pub mod Changes
pub mod Reasons
pub mod Acts
pub mod Asking
pub mod Ingests
