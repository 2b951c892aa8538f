mod Asked
mod Readings
mod Empty
mod Counted
mod Reported
mod Opened
mod Delivered
mod Drilled
