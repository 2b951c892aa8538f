pub mod Reasons
pub mod Absent
pub mod SameSources
pub mod Releases
pub mod Routing
pub mod Telling
