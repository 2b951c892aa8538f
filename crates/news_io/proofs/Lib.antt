pub mod Framing
pub mod Kept
pub mod Over
pub mod Pieces
pub mod Readings
pub mod Replay
pub mod Replies
pub mod Runs
