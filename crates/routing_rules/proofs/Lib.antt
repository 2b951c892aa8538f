mod ZoneRules
mod Clocks
