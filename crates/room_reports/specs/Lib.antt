pub mod Texts
pub mod Written
pub mod Reports
pub mod Parts
