pub mod Trouble
pub mod Kinds
pub mod Holds
pub mod Store
pub mod Files
