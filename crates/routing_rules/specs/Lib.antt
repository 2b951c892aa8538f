pub mod Judged
pub mod Zones
