mod NameText
pub mod Receipts
pub mod PathLaws
