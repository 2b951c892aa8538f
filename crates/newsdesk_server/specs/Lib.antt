pub mod Opening
pub mod Summary
pub mod Workers
pub mod Ready
pub mod Serving
