pub mod Fields
pub mod Seen
pub mod Table
pub mod Reads
pub mod Import
pub mod Steps
pub mod Laws
pub mod Report
