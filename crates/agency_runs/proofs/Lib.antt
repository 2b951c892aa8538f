pub mod Decides
pub mod FaultPlaces
pub mod KeptItems
pub mod Places
pub mod Ready
