pub mod Outcome
pub mod Turn
pub mod Laws
pub mod Turns
pub mod Wires
pub mod Exchanges
pub mod Served
pub mod Serving
