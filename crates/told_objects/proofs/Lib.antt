mod Plain
mod Listed
