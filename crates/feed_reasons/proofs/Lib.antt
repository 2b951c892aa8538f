pub mod Verdicts
pub mod Dues
pub mod Courses
