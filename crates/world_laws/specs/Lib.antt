pub mod World
pub mod FeedOrder
pub mod Headline
pub mod Growth
pub mod Facts
pub mod Bridge
pub mod Example
pub mod WrongWorlds
