use Rattle.std.proofs.Common.{reverse, take}
use Rattle.nvme_report.specs.inside.Tallies.{AreMost, Tallies}
use Rattle.nvme_report.proofs.reports.counts.counts_of.Given as goal

-- the counts are those of the events so far
abbrev pub invariant-loop-event : goal.invariant-loop-event
invariant-loop-event l = Tallies (reverse (take l.event-index l.log)) l.counts l.opened × AreMost l.event-index l.counts
