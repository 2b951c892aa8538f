pub mod Receptions
pub mod Reopenings
