pub mod Written
pub mod Replies
pub mod FirstRecords
