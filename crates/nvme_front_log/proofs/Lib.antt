mod Outcomes
mod Beginnings
mod LawfulLogs
