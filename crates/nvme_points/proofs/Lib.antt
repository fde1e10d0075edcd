mod Combinations
mod Digits
mod Documents
mod Puts
mod Standing
