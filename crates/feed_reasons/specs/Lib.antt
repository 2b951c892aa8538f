pub mod Verdicts
pub mod Courses
pub mod Reasons
pub mod Laws
