mod Accounts
mod Adding
pub mod Answering
mod Driven
mod Failing
mod Fitting
mod LoadedRuns
mod Meaning
mod Rings
mod Settled
mod Sites
mod Telling
mod Told
mod TooLong
