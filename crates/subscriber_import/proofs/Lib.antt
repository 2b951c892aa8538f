pub mod Imports
pub mod Records
pub mod Parts
pub mod Importing
