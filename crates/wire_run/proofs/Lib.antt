pub mod Decides
pub mod Fronts
pub mod Items
pub mod Passes
pub mod Ready
