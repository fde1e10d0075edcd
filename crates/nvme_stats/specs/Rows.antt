-- The rows of statistics and pictures, and shares. (profile)
use Rattle.std.specs.Prelude.{◌≡◌, ◌≤◌, ◌+◌, ◌*◌, ◌/◌, ℕ}
use Rattle.nvme_arbiter.specs.declared.settings.Class.{Class}
use Rattle.nvme_arbiter.specs.declared.settings.Class.TheVariants.{Admin, Urgent, High, Medium, Low}

-- the number of an I/O queue
abbrev pub IsIoQueue : ℕ → Type 0
IsIoQueue qid = (1 ≤ qid) × (qid ≤ 64)

-- a row is that of a queue in a class: the first is the admin queue's, and then come the I/O queues of each class
abbrev pub IsRow : Class → ℕ → ℕ → Type 0
IsRow Admin qid row = row ≡ 0
IsRow Urgent qid row = IsIoQueue qid × (row ≡ qid)
IsRow High qid row = IsIoQueue qid × (row ≡ 64 + qid)
IsRow Medium qid row = IsIoQueue qid × (row ≡ 128 + qid)
IsRow Low qid row = IsIoQueue qid × (row ≡ 192 + qid)

-- the share of a part in a whole of so many units: the nearest number of units, and of two the larger
abbrev pub share_of : ℕ → ℕ → ℕ → ℕ
share_of units part whole = (part * units + whole / 2) / whole
