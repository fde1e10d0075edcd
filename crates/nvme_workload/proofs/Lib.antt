pub mod Turns
pub mod SoundLemmas
pub mod Lines
pub mod Placed
