mod Mixes
mod Played
mod Steps
mod Totals
