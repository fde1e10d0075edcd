-- What is kept of what was done while commands came. (profile)
use Rattle.std.specs.Prelude.{◌≡◌, ◌≤◌, ◌<◌, ℕ, ◌+◌, ◌==◌, ◌&&◌, if◌then◌else◌, nat_le, nat_lt, List, Some, length, slice_index_or}
use Rattle.nvme_model.specs.declared.finished.Finished.{Finished}
use Rattle.nvme_numbers.specs.Feeding.{Event, amount_of, amount_plus, amount_with, came_in, done_in, fed_in, first_in, is_behind, last_in}
use Rattle.nvme_numbers.specs.declared.feed.Amount.{Amount}
use Rattle.nvme_numbers.specs.declared.feed.Comings.{Comings}
use Rattle.nvme_numbers.specs.declared.feed.Feed.{Feed}
use Rattle.nvme_numbers.specs.declared.numbers.Numbers.{Numbers}
use Rattle.nvme_numbers.specs.declared.numbers.QueueTally.{QueueTally}

abbrev pub nothing : Amount
nothing = record { commands = 0; bytes = 0 }

abbrev pub no_feed : Feed
no_feed = record { fed = nothing; since = nothing; count = 0 }

-- so many commands came, the last of them now
abbrev pub with_coming : (warm_up count at : ℕ) → Comings → Comings
with_coming warm_up count at c = record {
  count = if nat_lt c.count count then count else c.count;
  last = if nat_lt c.count count then at else c.last;
  first = if nat_lt c.count count && (nat_le c.count warm_up && nat_lt warm_up count) then Some at else c.first;
}

-- what was done no later than the last coming, where so many came
abbrev pub settled : (count : ℕ) → Feed → Amount
settled count f = if f.count == count then f.fed else amount_plus f.fed f.since

-- what was done behind it
abbrev pub loose : (count : ℕ) → Feed → Amount
loose count f = if f.count == count then f.since else nothing

-- one command more
abbrev pub feed_with : (count last : ℕ) → Finished → Feed → Feed
feed_with count last command f =
    if nat_le command.times.done last then record { fed = amount_with (settled count f) command; since = loose count f; count = count }
    else record { fed = settled count f; since = amount_with (loose count f) command; count = count }

-- what is kept is that of events
pub record IsComingsOf (warm_up : ℕ) (events : List Event) (c : Comings) : Type 0 where
  pub count : c.count ≡ came_in events
  pub last : c.last ≡ last_in events
  pub first : c.first ≡ first_in warm_up events

pub record IsFeedOf (warm_up queue : ℕ) (events : List Event) (f : Feed) : Type 0 where
  pub all : amount_plus f.fed f.since ≡ amount_of (done_in warm_up queue events)
  pub count : f.count ≤ came_in events
  pub fed : settled (came_in events) f ≡ amount_of (fed_in warm_up queue events)

-- a command of a queue is done
abbrev pub fed_with : Comings → Finished → Feed → Feed
fed_with c command f = if is_behind c.first command then feed_with c.count c.last command f else f

pub record IsFed (command : Finished) (old new : Numbers) : Type 0 where
  pub own : (k : ℕ) (d : QueueTally) → k + 1 ≡ command.queue → k < length old.queues.items
      → (slice_index_or new.queues.items k d).feed ≡ fed_with old.comings command (slice_index_or old.queues.items k d).feed
  pub others : (k : ℕ) (d : QueueTally) → ¬ (k + 1 ≡ command.queue) → (slice_index_or new.queues.items k d).feed ≡ (slice_index_or old.queues.items k d).feed
  pub comings : new.comings ≡ old.comings
