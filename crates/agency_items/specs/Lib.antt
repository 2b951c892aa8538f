pub mod Names
pub mod Reading
pub mod Texts
pub mod Lists
pub mod Moments
pub mod Words
pub mod Bodies
pub mod Items
