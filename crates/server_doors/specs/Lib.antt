pub mod Doors
pub mod Devices
