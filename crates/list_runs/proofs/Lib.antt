pub mod Fronts
pub mod Outputs
pub mod Audits
pub mod Pasts
pub mod Makings
pub mod Issued
pub mod Whys
