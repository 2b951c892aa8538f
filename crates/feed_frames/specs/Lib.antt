pub mod Writer
pub mod Sizes
