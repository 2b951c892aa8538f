mod Reading
mod Fronts
