mod JsonTexts
mod Plain
pub mod Sizes
mod Told
