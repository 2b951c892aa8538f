pub mod Logs
pub mod Openings
pub mod Lefts
pub mod Serving
