pub mod Counts
pub mod Headers
pub mod Stores
pub mod Listing
pub mod Serving
pub mod Holding
