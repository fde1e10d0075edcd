-- What the trace of a run is, read back. (Base Specification, Command Arbitration; texts: profile)
use Rattle.std.specs.Prelude.{ℕ, List, reverse}
use Rattle.nvme_entry.specs.declared.submission.Sqe.{Sqe}
use Rattle.nvme_entry.specs.declared.completion.Cqe.{Cqe}
use Rattle.nvme_arbiter.specs.Settings.{FitsFields}
use Rattle.nvme_log.specs.declared.event.Event.{Event}
use Rattle.nvme_log.specs.Rules.{FrontRules}
use Rattle.nvme_log.specs.Histories.{arbitration_of, picks_in}
use Rattle.nvme_log.specs.Account.{IsAccount}
use Rattle.nvme_tracer.specs.Text.{trace_text}
use Rattle.nvme_lines.specs.Lines.{told_lines}
use Rattle.nvme_trace.specs.Checks.{Tells, IsLawfulText}
use Rattle.nvme_trace.specs.declared.records.Head.{Head}

-- the trace that is written of a log
abbrev pub trace_of : FrontRules → List Event → List ℕ
trace_of rules log = trace_text rules.mechanism rules.start.settings log

-- the head of that trace
abbrev pub head_of : FrontRules → Head
head_of rules = record { mechanism = rules.mechanism; settings = rules.start.settings }

-- the lines of a log's trace are the head and the picks and changes of the settings of the log
abbrev pub TracesAreReadBack : Type 0
TracesAreReadBack = (rules : FrontRules) (sent : ℕ → List Sqe) (log : List Event) (collected : ℕ → List Cqe) → FitsFields rules.start.settings
    → IsAccount rules sent (reverse log) collected → Tells (head_of rules) (arbitration_of (reverse log)) (reverse (told_lines (trace_of rules log)))

-- the trace of a log is a lawful text with the log's picks
abbrev pub TracesAreLawful : Type 0
TracesAreLawful = (rules : FrontRules) (sent : ℕ → List Sqe) (log : List Event) (collected : ℕ → List Cqe) → FitsFields rules.start.settings
    → IsAccount rules sent (reverse log) collected → IsLawfulText (trace_of rules log) (picks_in log)
