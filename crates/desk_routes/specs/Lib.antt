pub mod Routes
pub mod Paths
pub mod Laws
pub mod Rights
pub mod Asking
pub mod Responses
