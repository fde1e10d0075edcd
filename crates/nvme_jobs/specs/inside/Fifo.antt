-- What a contract sees of a queue of items with room for a fixed number (profile).
use Rattle.std.specs.Prelude.{ℕ, List}

-- the items, the oldest first, and how many there is room for
pub record FifoView (T : Type 0) : Type 0 where
  pub items : List T
  pub room : ℕ
