pub mod Rows
pub mod Firsts
pub mod Following
pub mod Known
pub mod Lasts
