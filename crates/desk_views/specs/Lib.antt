pub mod Items
pub mod Things
pub mod Reach
pub mod Publications
pub mod Wires
