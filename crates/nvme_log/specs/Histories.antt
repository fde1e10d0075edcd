-- The histories that a log holds: of arbitration, and of the queue table.
-- (Base Specification, Command Arbitration, Admin Command Set)
use Rattle.std.specs.Prelude.{◌==◌, if◌then◌else◌, [], ◌∷◌, ◌++◌, Option, Some, None, slice_get, option_and_then, ℕ, ◌+◌, List}
use Rattle.nvme_entry.specs.declared.submission.Sqe.{Sqe}
use Rattle.nvme_arbiter.specs.History.{History, Picked, Changed}
use Rattle.nvme_admin.specs.History.{TableHistory, EntryApplied, DeletionFinished}
use Rattle.nvme_log.specs.declared.event.Event.TheVariants.{Pick, SetArbitration, ClosedSq}
use Rattle.nvme_log.specs.Rules.{Past, FrontRules}
use Rattle.nvme_log.specs.Places.{waiting, entry_at}
use Rattle.nvme_log.specs.declared.event.Event.{Event}

-- the arbitration history of a log: its picks, each with what was seen, and its changes of the settings
abbrev pub arbitration_of : Past → History
arbitration_of [] = []
arbitration_of (Pick seen pick ∷ past) = Picked seen pick ∷ arbitration_of past
arbitration_of (SetArbitration settings ∷ past) = Changed settings ∷ arbitration_of past
arbitration_of (e ∷ past) = arbitration_of past

-- the entry that a pick of the admin queue takes: that of its oldest waiting place
abbrev pub admin_entry : Past → Option Sqe
admin_entry past = option_and_then (entry_at past 0) (slice_get (waiting past 0) 0)

-- the step of a table history that an entry is
abbrev pub applied : Option Sqe → TableHistory
applied None = []
applied (Some entry) = EntryApplied entry ∷ []

-- the table history of a log: the regions, then the entries of the picks of queue 0 and the finished deletions
abbrev pub table_history : FrontRules → Past → TableHistory
table_history rules [] = rules.regions
table_history rules (Pick seen pick ∷ past) = if pick.qid == 0 then applied (admin_entry past) ++ table_history rules past else table_history rules past
table_history rules (ClosedSq qid region ∷ past) = DeletionFinished qid ∷ table_history rules past
table_history rules (e ∷ past) = table_history rules past

-- how many picks a log has
abbrev pub picks_in : List Event → ℕ
picks_in [] = 0
picks_in (Pick seen pick ∷ rest) = picks_in rest + 1
picks_in (e ∷ rest) = picks_in rest
