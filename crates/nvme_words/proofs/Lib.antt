mod Answering
mod Building
mod Lines
mod Naming
mod OneRequest
mod Reading
mod Taking
