-- How many commands arbitration picks of other queues at most, while a queue has commands that it could pick. (profile)
use Rattle.std.specs.Prelude.{ℕ, ◌+◌, ◌-◌, ◌*◌, ◌/◌, ◌==◌, min, if◌then◌else◌, Option, Some, None}
use Rattle.nvme_arbiter.specs.Settings.{ArbitrationFields, burst_of, weight_of}
use Rattle.nvme_arbiter.specs.Rules.{within_burst}
use Rattle.nvme_arbiter.specs.declared.settings.Class.{Class}
use Rattle.nvme_arbiter.specs.declared.settings.Class.TheVariants.{Admin, Urgent, High, Medium, Low}
use Rattle.nvme_arbiter.specs.declared.settings.Mechanism.{Mechanism}
use Rattle.nvme_arbiter.specs.declared.settings.Mechanism.TheVariants.{RoundRobin, Weighted}

-- the weight of a level that has a queue
abbrev pub share : ArbitrationFields → (Class → ℕ) → Class → ℕ
share s queues level = if queues level == 0 then 0 else weight_of s level

-- the weights of the levels that go before a level in a round, and of those that go behind it
abbrev pub above : ArbitrationFields → (Class → ℕ) → Class → ℕ
above s queues Medium = share s queues High
above s queues Low = share s queues High + share s queues Medium
above s queues class = 0

abbrev pub below : ArbitrationFields → (Class → ℕ) → Class → ℕ
below s queues High = share s queues Medium + share s queues Low
below s queues Medium = share s queues Low
below s queues class = 0

-- how many commands the other queues of a class of so many queues have picked in a turn each, of so many at most
abbrev pub own : (queues each : ℕ) → ℕ
own queues each = (queues - 1) * each

-- how many rounds begin, where so many commands of a level of this weight are picked: one for the credit that was used up before, and one for each
-- weight
abbrev pub rounds : (commands weight : ℕ) → ℕ
rounds commands weight = commands / weight + 1

-- of a level. In each of these rounds the other levels use up their credits, and those before it once more in the last one
abbrev pub before_level : ArbitrationFields → (Class → ℕ) → (each : ℕ) → Class → ℕ
before_level s queues each level =
    let first = own (queues level) (min each (weight_of s level)) in
    first + rounds first (weight_of s level) * (above s queues level + below s queues level) + above s queues level

-- the queues of all classes
abbrev pub all_of : (Class → ℕ) → ℕ
all_of queues = queues Admin + queues Urgent + queues High + queues Medium + queues Low

-- where no queue is admin
abbrev pub before_urgent : (Class → ℕ) → (each : ℕ) → Option ℕ
before_urgent queues each = if queues Admin == 0 then Some (own (queues Urgent) each) else None

-- where no queue is admin or urgent
abbrev pub before_weighted : ArbitrationFields → (Class → ℕ) → (each : ℕ) → Class → Option ℕ
before_weighted s queues each level =
    if queues Admin == 0 then (if queues Urgent == 0 then Some (before_level s queues each level) else None) else None

-- for the numbers of queues of each class, where a pick takes so many commands at most. None where there is no bound, or none is told: the admin queue of the
-- weighted mechanism, an urgent queue beside it, and a level beside these
abbrev pub most_before : Mechanism → ArbitrationFields → (Class → ℕ) → (most : ℕ) → Class → Option ℕ
most_before RoundRobin s queues most class = Some (own (all_of queues) (within_burst (burst_of s) most))
most_before Weighted s queues most Admin = None
most_before Weighted s queues most Urgent = before_urgent queues (within_burst (burst_of s) most)
most_before Weighted s queues most High = before_weighted s queues (within_burst (burst_of s) most) High
most_before Weighted s queues most Medium = before_weighted s queues (within_burst (burst_of s) most) Medium
most_before Weighted s queues most Low = before_weighted s queues (within_burst (burst_of s) most) Low
