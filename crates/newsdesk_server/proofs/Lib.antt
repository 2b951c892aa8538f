mod Dealt
mod Stops
mod Running
