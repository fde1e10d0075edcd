-- The next queue among some, by ascending identifier (round robin: Base Specification, Command Arbitration; the ascending order: profile).
use Rattle.std.specs.Prelude.{ℕ, nat_lt, if◌then◌else◌, List, [], ◌∷◌, filter, Option, Some, None}
use Rattle.std.specs.Option.{option_or}
use Rattle.nvme_arbiter.specs.declared.pick.Seen.{Seen}

-- the one of the lower identifier
abbrev pub lower : Seen → Option Seen → Seen
lower s None = s
lower s (Some t) = if nat_lt t.qid s.qid then t else s

-- the queue of the least identifier
abbrev pub least : List Seen → Option Seen
least [] = None
least (s ∷ rest) = Some (lower s (least rest))

-- the queues above an identifier
abbrev pub above : ℕ → List Seen → List Seen
above qid queues = filter (λ s. nat_lt qid s.qid) queues

-- the queue of the least identifier above the one that was served last. Where there is none, or nothing was served before, the queue of the least identifier of all
abbrev pub next : Option ℕ → List Seen → Option Seen
next None queues = least queues
next (Some last) queues = option_or (least (above last queues)) (least queues)
