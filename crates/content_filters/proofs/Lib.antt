pub mod Parts
pub mod Urgency
pub mod Ages
pub mod Judging
pub mod Absent
pub mod Facts
pub mod Changed
pub mod Blocks
