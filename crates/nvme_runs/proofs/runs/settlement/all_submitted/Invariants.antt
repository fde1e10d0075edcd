-- The loop passed only regions whose scripts are submitted where they are due.
use Rattle.std.proofs.Common.{◌≡◌, ℕ, ◌<◌, length, get_or}
use Rattle.nvme_entry.specs.declared.submission.Sqe.{Sqe}
use Rattle.nvme_lane.specs.Feeder.{script_of, count_of}
use Rattle.nvme_lane.specs.declared.feeder.Feeder.{Feeder}
use Rattle.nvme_runs.specs.Runs.{IsDue}
use Rattle.nvme_runs.proofs.runs.settlement.all_submitted.Given as goal

abbrev pub invariant-loop-feeder : goal.invariant-loop-feeder
invariant-loop-feeder l = record {
  at : l.region ≡ l.feeder-index;
  submitted : (k : ℕ) (f : Feeder Sqe) → k < l.feeder-index → IsDue l.mode l.parts.front k
      → count_of (get_or l.parts.feeders.items k f) ≡ length (script_of (get_or l.parts.feeders.items k f));
}
