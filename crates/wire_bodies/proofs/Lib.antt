pub mod Alike
pub mod Counted
pub mod Joined
pub mod Placed
pub mod Said
