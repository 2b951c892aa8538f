pub mod Civils
pub mod Readings
pub mod Days
pub mod Digits
pub mod Offsets
pub mod Clocks
