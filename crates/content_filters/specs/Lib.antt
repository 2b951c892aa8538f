pub mod Folds
pub mod Folded
pub mod Kept
pub mod Keeps
pub mod Reasons
pub mod Asked
pub mod Changes
