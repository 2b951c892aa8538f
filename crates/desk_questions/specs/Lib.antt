pub mod Words
pub mod Items
pub mod Rows
pub mod Things
pub mod Reach
pub mod Publications
pub mod Told
