mod Spreads
mod Listed
