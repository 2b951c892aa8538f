pub mod Written
pub mod ReceiptLines
pub mod FirstFrames
pub mod Numbered
pub mod Receiving
mod Reactions
