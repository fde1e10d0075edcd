mod FedTurns
mod Joins
mod LoadedTurns
mod Running
mod Turned
