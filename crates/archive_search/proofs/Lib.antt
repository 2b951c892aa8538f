pub mod Hits
pub mod Paged
pub mod Found
pub mod Reported
pub mod Judging
pub mod Answered
