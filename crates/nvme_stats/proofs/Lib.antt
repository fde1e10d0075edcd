pub mod ShowLemmas
