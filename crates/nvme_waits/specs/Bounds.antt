-- What is told about the waits of a model's queues. (profile)
use Rattle.std.specs.Prelude.{ℕ, ◌==◌, min, Bool, count_by, List, Option, Some, None, Result, Ok, Err}
use Rattle.nvme_arbiter.specs.ByClass.{of_class}
use Rattle.nvme_arbiter.specs.Settings.{number_of_class}
use Rattle.nvme_arbiter.specs.declared.by_class.ByClass.{ByClass}
use Rattle.nvme_arbiter.specs.declared.settings.Class.{Class}
use Rattle.nvme_arbiter.specs.declared.settings.Class.TheVariants.{Admin, Urgent, High, Medium, Low}
use Rattle.nvme_bounds.specs.Before.{most_before}
use Rattle.nvme_bounds.specs.Runs.{time_behind}
use Rattle.nvme_channels.specs.declared.placement.Placement.{Placement}
use Rattle.nvme_channels.specs.declared.placement.Placement.TheVariants.{Pool, Striped}
use Rattle.nvme_model.specs.declared.device.Device.{Device}
use Rattle.nvme_model.specs.declared.device.Pauses.{Pauses}
use Rattle.nvme_model.specs.declared.model.Model.{Model}
use Rattle.nvme_model.specs.declared.queue.Queue.{Queue}
use Rattle.nvme_waits.specs.declared.bounds.Bound.{Bound}
use Rattle.nvme_waits.specs.declared.bounds.Bounds.{Bounds}
use Rattle.nvme_waits.specs.declared.bounds.NoBound.{NoBound}
use Rattle.nvme_waits.specs.declared.bounds.NoBound.TheVariants as reason
use Rattle.nvme_waits.specs.declared.waits.Waits.{Waits}
use Rattle.nvme_waits.specs.Longest.{longest_of}

-- how many queues a class has
abbrev pub is_in : Class → Queue → Bool
is_in class q = number_of_class q.class == number_of_class class

abbrev pub count_in : List Queue → Class → ℕ
count_in queues class = count_by (is_in class) queues

abbrev pub counts_in : List Queue → ByClass ℕ
counts_in queues =
    record { admin = count_in queues Admin; urgent = count_in queues Urgent; high = count_in queues High; medium = count_in queues Medium; low = count_in queues Low }

-- why a device has no bound in time: its commands wait for a stripe, or its channels pause
abbrev pub unbounded : Placement → Option Pauses → Option NoBound
unbounded (Striped stripe) pauses = Some reason.Striped
unbounded Pool (Some pauses) = Some reason.Pauses
unbounded Pool None = None

-- a full pool runs as many commands as it has channels, or as its depth, where that is less
abbrev pub always_run : Device → ℕ
always_run d = min d.channels d.depth

-- how long so many commands and one more take, each the longest service, where there is no reason against a bound
abbrev pub time_unless : Option NoBound → (before least service : ℕ) → Result ℕ NoBound
time_unless (Some why) before least service = Err why
time_unless None before least service = Ok (time_behind before least service)

-- behind so many commands of others, or behind any number of urgent ones
abbrev pub time_of : Device → Option ℕ → (service : ℕ) → Result ℕ NoBound
time_of d None service = Err reason.Urgent
time_of d (Some before) service = time_unless (unbounded d.placement d.pauses) before (always_run d) service

-- the most commands of others before one of a class. Once a device is full, each command that ends makes room for one
abbrev pub before_in : Model → Class → Option ℕ
before_in m class = most_before m.mechanism m.settings (of_class (counts_in m.queues.items)) 1 class

abbrev pub bound_of : Model → Queue → Bound
bound_of m q = record { class = q.class; before = before_in m q.class; time = time_of m.device (before_in m q.class) (longest_of m.queues.items) }

-- what was seen of the waits
abbrev pub waits_in : Bounds → Waits
waits_in b = b.waits
