-- What a report tells, as values: the picks, the regions, and the completion of each fetched command. (profile)
use Rattle.std.specs.Prelude.{◌≡◌, ℕ, Option, Some, None, List, length, map, reverse, Vec, filter_map}
use Rattle.std.specs.List.{enumerate_from, flat_map}
use Rattle.nvme_entry.specs.declared.completion.Cqe.{Cqe}
use Rattle.nvme_log.specs.declared.event.Event.{Event}
use Rattle.nvme_log.specs.declared.event.Event.TheVariants.{Pick}
use Rattle.nvme_front.specs.declared.settled.Sent.{Sent}
use Rattle.nvme_front.specs.declared.settled.Settled.{Settled}
use Rattle.nvme_log.specs.Rules.{Past, upto}
use Rattle.nvme_log.specs.Places.{fetched, picked, places}
use Rattle.nvme_report.specs.Report.{aborts_of, completions_of}
use Rattle.nvme_report.specs.declared.reports.rows.PickRow.{PickRow}
use Rattle.nvme_report.specs.declared.reports.rows.SubmissionRow.{SubmissionRow}
use Rattle.nvme_report.specs.declared.reports.rows.CompletionRow.{CompletionRow}
use Rattle.nvme_report.specs.declared.reports.rows.CommandRow.{CommandRow}
use Rattle.nvme_report.specs.declared.reports.rows.Rows.{Rows}

-- an event, where it is a pick
abbrev pub pick_row : Event → Option PickRow
pick_row (Pick seen pick) = Some (record { queue = pick.qid; n = pick.n; fresh = pick.fresh })
pick_row e = None

-- a submission region
abbrev pub submission_row : Past → ℕ → Sent → SubmissionRow
submission_row past r sent = record {
  region = r;
  script = length sent.script.items;
  submitted = sent.count;
  fetched = length (fetched past r);
  picked = picked past r;
  aborted = aborts_of past r;
}

-- a completion region
abbrev pub completion_row : {Z : Type 0} → ℕ → Vec Cqe Z → CompletionRow
completion_row c cqes = record { region = c; collected = length cqes.items }

-- a place with its completion
abbrev pub command_row : ℕ → ℕ → Cqe → CommandRow
command_row r i cqe = record { region = r; index = i; status = cqe.status; dw0 = cqe.dw0 }

-- the fetched places of a region, each with its completion
abbrev pub command_rows : List Event → ℕ → List CommandRow
command_rows log r = flat_map (λ (i : ℕ). map (command_row r i) (completions_of log r i)) (places (reverse log) r)

-- all that a report tells
pub record AreRowsOf (settled : Settled) (rows : Rows) : Type 0 where
  pub picks : rows.picks.items ≡ filter_map pick_row settled.log.items
  pub submissions : rows.submissions.items ≡ map (λ (p : ℕ × Sent). submission_row (reverse settled.log.items) p.0 p.1) (enumerate_from 0 settled.sent.items)
  pub completions : rows.completions.items ≡ map (λ p. completion_row p.0 p.1) (enumerate_from 0 settled.collected.items)
  pub commands : rows.commands.items ≡ flat_map (command_rows settled.log.items) (upto (length settled.sent.items))
