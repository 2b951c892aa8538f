pub mod Nowhere
pub mod Standing
pub mod Requests
pub mod Readings
pub mod Report
pub mod Delivery
pub mod Drill
