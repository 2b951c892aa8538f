mod Halting
mod Connecting
mod Receiving
mod Zips
mod Longer
