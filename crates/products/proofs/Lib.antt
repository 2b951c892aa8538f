pub mod Loops
pub mod Blocking
pub mod Judged
pub mod Listed
pub mod Changed
pub mod Told
