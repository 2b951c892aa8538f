pub mod Slots
pub mod Dues
pub mod Fills
pub mod DueSteps
pub mod Wires
