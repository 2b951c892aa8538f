mod Plain
mod Listed
mod Tokens
