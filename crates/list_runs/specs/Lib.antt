pub mod Lists
pub mod Output
pub mod Audits
pub mod Past
pub mod Life
pub mod Making
pub mod Why
