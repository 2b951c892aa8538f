pub mod Segment
pub mod Reading
pub mod Answers
pub mod Packing
pub mod Payloads
pub mod Told
pub mod Spelled
