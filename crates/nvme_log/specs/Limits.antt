-- The limits of this profile. A later profile raises them here and in src/limits.rt.
use Rattle.std.specs.Prelude.{ℕ, ◌-◌, min}
use Rattle.nvme_arbiter.specs.Limits.{highest_count}

-- the most places that were picked, or that an Abort command aborted, and whose completion isn't posted yet
abbrev pub max_outstanding : ℕ
max_outstanding = 256

-- the most events that a front's log may be allowed to hold
abbrev pub most_events : ℕ
most_events = 1048576

-- the most candidates of a queue of this many slots: a ring of S slots holds S - 1 entries, and a window as many, but no more than arbitration counts
abbrev pub window_of : ℕ → ℕ
window_of slots = min (slots - 1) highest_count

-- the most events of an admin pick: the pick, the beginning of a deletion and one for each candidate that it aborts
abbrev pub admin_events : ℕ
admin_events = 258

-- the most completions that are ready for one completion region
abbrev pub max_ready : ℕ
max_ready = 512
