pub mod TurnLemmas
pub mod RoundLemmas
pub mod JudgeLemmas
pub mod StartLemmas
pub mod StateLemmas
