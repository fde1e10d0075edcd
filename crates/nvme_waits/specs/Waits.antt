-- How long a command waited for arbitration as the next one of its queue. (profile)
use Rattle.std.specs.Prelude.{◌≡◌, ◌<◌, ℕ, zero, suc, ◌+◌, ◌-◌, ◌==◌, ◌&&◌, Bool, true, false, List, [], ◌∷◌, ◌++◌, min, max, Option, Some, None, find, length, option_and_then, replicate, slice_get, slice_index_or, unwrap_or}
use Rattle.nvme_arbiter.specs.declared.pick.Pick.{Pick}
use Rattle.nvme_model.specs.declared.finished.Finished.{Finished}
use Rattle.nvme_waits.specs.declared.waits.Queue.{Queue}
use Rattle.nvme_waits.specs.declared.waits.Taken.{Taken}
use Rattle.nvme_waits.specs.declared.waits.Waits.{Waits}

-- no command of so many queues was picked
abbrev pub unpicked : Queue
unpicked = record { count = 0; last = 0; longest = None }

pub record HasNoWait (count : ℕ) (w : Waits) : Type 0 where
  pub queues : w.queues.items ≡ replicate count unpicked
  pub taken : w.taken.items ≡ []

-- the number behind another one, in 64 bits
abbrev pub next_of : ℕ → ℕ
next_of number = min (number + 1) 0xffff_ffff_ffff_ffff

-- so many commands of a queue are picked at a time, and the last one of them then
abbrev pub queue_behind : (at : ℕ) → (n : ℕ) → Queue → Queue
queue_behind at zero q = q
queue_behind at (suc n) q = queue_behind at n (record q { count = next_of q.count; last = at })

-- each of them with when the one before it was picked: the first one with when its queue was picked before
abbrev pub picked_from : (at qid : ℕ) → (n : ℕ) → Queue → List Taken
picked_from at qid zero q = []
picked_from at qid (suc n) q = record { queue = qid; number = q.count; since = q.last } ∷ picked_from at qid n (record q { count = next_of q.count; last = at })

-- commands of a queue are picked at a time: the device has them too, and no other queue changes. Commands of the admin queue,
-- and of a queue that the model lacks, aren't followed
pub record Picks (at : ℕ) (p : Pick) (old new : Waits) : Type 0 where
  pub count : length new.queues.items ≡ length old.queues.items
  pub own : (k : ℕ) (d : Queue) → k + 1 ≡ p.qid → k < length old.queues.items
      → slice_index_or new.queues.items k d ≡ queue_behind at p.n (slice_index_or old.queues.items k d)
  pub taken : (k : ℕ) (d : Queue) → k + 1 ≡ p.qid → k < length old.queues.items
      → new.taken.items ≡ old.taken.items ++ picked_from at p.qid p.n (slice_index_or old.queues.items k d)
  pub admin : p.qid ≡ 0 → new.taken.items ≡ old.taken.items
  pub beyond : length old.queues.items < p.qid → new.taken.items ≡ old.taken.items
  pub others : (k : ℕ) (d : Queue) → ¬ (k + 1 ≡ p.qid) → slice_index_or new.queues.items k d ≡ slice_index_or old.queues.items k d

-- the command that the device has, with when the one before it in its queue was picked
abbrev pub is_of : Finished → Taken → Bool
is_of c t = (t.queue == c.queue) && (t.number == c.number)

abbrev pub taken_in : Waits → Finished → Option Taken
taken_in w c = find (is_of c) w.taken.items

-- from when its host rang for it, and the one before it was picked, until it was picked itself
abbrev pub wait_of : Finished → Taken → ℕ
wait_of c t = c.times.picked - max c.times.submitted t.since

-- the longer of two waits, the first of which may be missing
abbrev pub longer_of : Option ℕ → ℕ → ℕ
longer_of other wait = max (unwrap_or other 0) wait

-- the longest wait that was seen of the queue at a place
abbrev pub longest_at : Waits → ℕ → Queue → Option ℕ
longest_at w k d = (slice_index_or w.queues.items k d).longest

-- that of the queue of an identifier
abbrev pub longest_seen : Waits → (qid : ℕ) → Option ℕ
longest_seen w zero = None
longest_seen w (suc place) = option_and_then (λ q. q.longest) (slice_get w.queues.items place)

-- a command is done: its wait is one of those that are told of its queue where numbers count it, and no other queue's changes
pub record Ends (c : Finished) (counts : Bool) (old new : Waits) : Type 0 where
  pub count : length new.queues.items ≡ length old.queues.items
  pub told : counts ≡ true → (t : Taken) → taken_in old c ≡ Some t → (k : ℕ) (d : Queue) → k + 1 ≡ c.queue → k < length old.queues.items
      → longest_at new k d ≡ Some (longer_of (longest_at old k d) (wait_of c t))
  pub unknown : taken_in old c ≡ None → (k : ℕ) (d : Queue) → longest_at new k d ≡ longest_at old k d
  pub uncounted : counts ≡ false → (k : ℕ) (d : Queue) → longest_at new k d ≡ longest_at old k d
  pub others : (k : ℕ) (d : Queue) → ¬ (k + 1 ≡ c.queue) → longest_at new k d ≡ longest_at old k d
