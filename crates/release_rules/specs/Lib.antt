pub mod Civil
pub mod Texts
pub mod Reader
pub mod Writer
