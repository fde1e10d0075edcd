-- Which queue has other arrivals. (profile)
use Rattle.std.specs.Prelude.{◌≡◌, ◌≢◌, ◌<◌, ℕ, ◌+◌, List, get_or, length}
use Rattle.nvme_load.specs.declared.arrivals.Arrivals.{Arrivals}
use Rattle.nvme_model.specs.declared.queue.Queue.{Queue}

-- a queue has these arrivals, and all else of an old one
pub record HasArrivals (coming : Arrivals) (old new : Queue) : Type 0 where
  pub arrivals : new.arrivals ≡ coming
  pub class : new.class ≡ old.class
  pub slots : new.slots ≡ old.slots
  pub mix : new.mix ≡ old.mix
  pub places : new.places ≡ old.places
  pub services : new.services ≡ old.services

-- of queues the one of a number, from 1 on, has these arrivals. The others are as before, and all where there is no such queue
pub record ArePut (number : ℕ) (arrivals : Arrivals) (old new : List Queue) : Type 0 where
  pub count : length new ≡ length old
  pub this : (i : ℕ) (q : Queue) → i + 1 ≡ number → i < length old → HasArrivals arrivals (get_or old i q) (get_or new i q)
  pub others : (i : ℕ) (q : Queue) → i + 1 ≢ number → get_or new i q ≡ get_or old i q
