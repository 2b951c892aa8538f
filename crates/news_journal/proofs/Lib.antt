mod Ascii
mod Fits
mod Forms
mod Headings
mod Looks
mod Made
mod Parts
mod Pieces
mod Progress
mod Standing
mod Steps
pub mod Opens
pub mod Time
