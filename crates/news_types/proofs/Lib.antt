mod Ascii
mod Zeros
pub mod Members
pub mod InOrder
pub mod Books
pub mod Steps
pub mod Feeds
pub mod Firsts
pub mod Bounds
pub mod Dues
pub mod Withdrawn
pub mod Kept
pub mod Legal
pub mod Prefix
pub mod Changes
pub mod Numbering
pub mod Subscribed
pub mod Limits
pub mod Delivered
pub mod Releases
pub mod Withdrawal
pub mod Quiet
pub mod Standing
pub mod Equality
pub mod Doubt
