mod Turns
mod Wide
