pub mod TokenLemmas
pub mod Ladders
pub mod Alike
pub mod Carried
pub mod Told
