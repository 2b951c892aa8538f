pub mod Draws
pub mod Setup
pub mod Stories
pub mod Plan
pub mod Agenda
