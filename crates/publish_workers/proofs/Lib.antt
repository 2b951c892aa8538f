mod Named
mod Answering
mod Worlds
mod Turning
mod Exchanging
mod Draining
mod Ready
mod Changes
mod Delivering
pub mod Complete
mod LinkDraining
mod Headings
pub mod Passing
pub mod Additions
mod Pacing
pub mod Receiving
mod AllDelivering
