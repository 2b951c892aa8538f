mod Cuts
pub mod Joined
mod JsonTexts
mod TextMoments
