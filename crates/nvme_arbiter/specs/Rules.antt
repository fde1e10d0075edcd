-- The rules of one pick: which queue is served, and how many of its commands are taken (Base Specification, Command Arbitration).
use Rattle.std.specs.Prelude.{ℕ, ◌-◌, ◌==◌, min, Bool, true, false, nat_lt, if◌then◌else◌, List, Option, Some, None, option_map}
use Rattle.std.specs.Option.{option_or}
use Rattle.nvme_arbiter.specs.Settings.{ArbitrationFields, burst_of, weight_of}
use Rattle.nvme_arbiter.specs.Observation.{ready, ready_of}
use Rattle.nvme_arbiter.specs.Next.{next}
use Rattle.nvme_arbiter.specs.declared.settings.Class.{Class}
use Rattle.nvme_arbiter.specs.declared.settings.Class.TheVariants.{Admin, Urgent, High, Medium, Low}
use Rattle.nvme_arbiter.specs.declared.pick.Seen.{Seen}
use Rattle.nvme_arbiter.specs.declared.pick.Pick.{Pick}

-- the smaller of burst and count
abbrev pub within_burst : Option ℕ → ℕ → ℕ
within_burst None count = count
within_burst (Some burst) count = min burst count

-- what is taken from the next queue, where there is one
abbrev pub take_from : Bool → (Seen → ℕ) → Option Seen → Option Pick
take_from fresh number queue = option_map (λ q. record { qid = q.qid; n = number q; fresh = fresh }) queue

-- round robin: the next ready queue after the one that was served last of all, the smaller of burst and count, one command of the admin queue
abbrev pub round_robin_pick : ArbitrationFields → Option ℕ → List Seen → Option Pick
round_robin_pick settings last seen = take_from false (λ q. if q.qid == 0 then 1 else within_burst (burst_of settings) q.count) (next last (ready seen))

-- the credit of a level: its weight less what was used of it in the round, the weight alone in a new round
abbrev pub credit : ArbitrationFields → (Class → ℕ) → Bool → Class → ℕ
credit settings used fresh level = if fresh then weight_of settings level else weight_of settings level - used level

-- the weighted mechanism, for the identifiers served last of each class and the commands used of each level
module _ (settings : ArbitrationFields) (last : Class → Option ℕ) (used : Class → ℕ) (seen : List Seen) where
  -- the next ready queue of a class after the last one served of that class
  abbrev pub next_of : Class → Option Seen
  next_of class = next (last class) (ready_of class seen)

  -- the admin queue is ready: one command (strict priority; the number: profile)
  abbrev pub admin_pick : Option Pick
  admin_pick = take_from false (λ q. 1) (next_of Admin)

  -- an urgent queue is ready: the smaller of burst and count
  abbrev pub urgent_pick : Option Pick
  urgent_pick = take_from false (λ q. within_burst (burst_of settings) q.count) (next_of Urgent)

  -- a level with a ready queue and credit: the least of burst, credit and count
  abbrev pub level_pick : Bool → Class → Option Pick
  level_pick fresh level = if nat_lt 0 (credit settings used fresh level) then take_from fresh (λ q. min (within_burst (burst_of settings) q.count) (credit settings used fresh level)) (next_of level) else None

  -- the first of High, Medium and Low that has a ready queue and credit (the order: profile)
  abbrev pub levels_pick : Bool → Option Pick
  levels_pick fresh = option_or (level_pick fresh High) (option_or (level_pick fresh Medium) (level_pick fresh Low))

  -- weighted round robin with urgent priority class: admin, urgent, the levels with their credits, and the levels in a new round
  abbrev pub weighted_pick : Option Pick
  weighted_pick = option_or admin_pick (option_or urgent_pick (option_or (levels_pick false) (levels_pick true)))
