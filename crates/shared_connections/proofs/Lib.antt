pub mod Listed
pub mod InTurns
