-- What is collected of the commands of queues. (profile)
use Rattle.std.specs.Prelude.{◌≡◌, ◌≤◌, ◌<◌, ℕ, ◌+◌, ◌-◌, List, [], ◌∷◌, ◌++◌, Option, Some, None, length, min, slice_index_or}
use Rattle.nvme_arbiter.specs.Settings.{ArbitrationFields}
use Rattle.nvme_latency.specs.Times.{times_of}
use Rattle.nvme_model.specs.declared.finished.Finished.{Finished}
use Rattle.nvme_model.specs.declared.model.Model.{Model}
use Rattle.nvme_model.specs.declared.queue.Queue.{Queue}
use Rattle.nvme_numbers.specs.Feeding.{Event}
use Rattle.nvme_numbers.specs.Sums.{no_sums, sums_with}
use Rattle.nvme_numbers.specs.Feeds.{IsComingsOf, IsFeedOf, no_feed}
use Rattle.nvme_numbers.specs.declared.feed.Comings.{Comings}
use Rattle.nvme_numbers.specs.declared.numbers.Asked.{Asked}
use Rattle.nvme_numbers.specs.declared.numbers.Numbers.{Numbers}
use Rattle.nvme_numbers.specs.declared.numbers.QueueTally.{QueueTally}

-- the queues, of the identifiers 1, 2 and so on
abbrev pub queues_of : Numbers → List QueueTally
queues_of n = n.queues.items

-- what the model says, as it is told beside the numbers
abbrev pub asked_of : Numbers → Asked
asked_of n = n.asked

-- the settings of the model
abbrev pub settings_of : Numbers → ArbitrationFields
settings_of n = (asked_of n).settings

-- when the first command that counts came
abbrev pub began_of : Numbers → Option ℕ
began_of n = n.began

-- how commands came so far
abbrev pub comings_of : Numbers → Comings
comings_of n = n.comings

-- of the commands that came first, so many warm up
abbrev pub warm_up_of : Numbers → ℕ
warm_up_of n = (asked_of n).warm_up

-- what is kept of the time in which commands come is that of events, the newest first
pub record IsFedBy (events : List Event) (n : Numbers) : Type 0 where
  pub comings : IsComingsOf (warm_up_of n) events (comings_of n)
  pub each : (k : ℕ) (d : QueueTally) → k < length (queues_of n) → IsFeedOf (warm_up_of n) (k + 1) events (slice_index_or (queues_of n) k d).feed

-- the earlier of two times, the first of which may be missing
abbrev pub earlier_of : Option ℕ → ℕ → ℕ
earlier_of None time = time
earlier_of (Some other) time = min other time

-- no command of a queue yet
pub record IsFresh (q : Queue) (t : QueueTally) : Type 0 where
  pub priority : t.class ≡ q.class
  pub times : times_of t.tally.latencies ≡ []
  pub sums : t.tally.sums ≡ no_sums
  pub feed : t.feed ≡ no_feed

-- nor of the queues at their places
pub record AreFresh (queues : List Queue) (tallies : List QueueTally) : Type 0 where
  pub each : (k : ℕ) (q : Queue) (t : QueueTally) → k < length tallies → IsFresh (slice_index_or queues k q) (slice_index_or tallies k t)

-- what a model says: all of it but its queues and its end
pub record SaysAsModel (m : Model) (a : Asked) : Type 0 where
  pub mechanism : a.mechanism ≡ m.mechanism
  pub settings : a.settings ≡ m.settings
  pub device : a.device ≡ m.device
  pub seed : a.seed ≡ m.seed
  pub warm_up : a.warm_up ≡ m.warm_up

-- no command of a model yet
pub record IsNew (m : Model) (n : Numbers) : Type 0 where
  pub count : length (queues_of n) ≡ length m.queues.items
  pub fresh : AreFresh m.queues.items (queues_of n)
  pub began : began_of n ≡ None
  pub says : SaysAsModel m (asked_of n)
  pub fed : IsFedBy [] n

-- a queue with one command more: exactly its latency and the times of its parts are added
pub record AddsCommand (f : Finished) (old new : QueueTally) : Type 0 where
  pub priority : new.class ≡ old.class
  pub times : times_of new.tally.latencies ≡ times_of old.tally.latencies ++ (f.times.done - f.times.came) ∷ []
  pub sums : new.tally.sums ≡ sums_with old.tally.sums f

-- the queue of the command, which is there, and no other one
pub record Adds (f : Finished) (old new : Numbers) : Type 0 where
  pub count : length (queues_of new) ≡ length (queues_of old)
  pub own : (k : ℕ) (d : QueueTally) → k + 1 ≡ f.queue → k < length (queues_of old)
      → AddsCommand f (slice_index_or (queues_of old) k d) (slice_index_or (queues_of new) k d)
  pub others : (k : ℕ) (d : QueueTally) → ¬ (k + 1 ≡ f.queue) → slice_index_or (queues_of new) k d ≡ slice_index_or (queues_of old) k d
  pub began : 1 ≤ f.queue → f.queue ≤ length (queues_of old) → began_of new ≡ Some (earlier_of (began_of old) f.times.came)
  pub says : asked_of new ≡ asked_of old
  pub feeds : (k : ℕ) (d : QueueTally) → (slice_index_or (queues_of new) k d).feed ≡ (slice_index_or (queues_of old) k d).feed
  pub comings : comings_of new ≡ comings_of old

-- what was counted stays
pub record Keeps (old new : Numbers) : Type 0 where
  pub count : length (queues_of new) ≡ length (queues_of old)
  pub times : (k : ℕ) (d : QueueTally)
      → times_of (slice_index_or (queues_of new) k d).tally.latencies ≡ times_of (slice_index_or (queues_of old) k d).tally.latencies
  pub sums : (k : ℕ) (d : QueueTally) → (slice_index_or (queues_of new) k d).tally.sums ≡ (slice_index_or (queues_of old) k d).tally.sums
  pub began : began_of new ≡ began_of old
  pub says : asked_of new ≡ asked_of old

-- an event is heeded where the time is told in which commands come, and what was counted stays
pub record Heeds (e : Event) (old new : Numbers) : Type 0 where
  pub fed : (events : List Event) → IsFedBy events old → IsFedBy (e ∷ events) new
  pub keeps : Keeps old new
