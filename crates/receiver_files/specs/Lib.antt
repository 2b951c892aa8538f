pub mod Refusals
pub mod Log
pub mod Opening
pub mod LogLeft
pub mod Receive
