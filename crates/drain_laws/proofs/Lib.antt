mod Named
mod Refusals
mod Places
mod Quiet
