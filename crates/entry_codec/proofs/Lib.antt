pub mod Appends
pub mod WordLaws
pub mod RecordLaws
pub mod CommandLaws
pub mod EntryLaws
pub mod Lengths
