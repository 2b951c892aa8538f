pub mod Halts
pub mod Conns
pub mod Firsts
pub mod Teams
pub mod Ends
