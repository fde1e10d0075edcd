use Rattle.std.proofs.Common.{rules, reverse, subst, sym, take}
use Rattle.nvme_report.specs.inside.Tallies.{Tallies}
use Rattle.nvme_report.proofs.Tallied.{nothing_most, nothing_tallied, past_more}
use Rattle.nvme_report.proofs.reports.counts.counts_of.Goals as goal

pub loop-event-init : goal.loop-event-init
loop-event-init c = (nothing_tallied 256 65536 (search rules), nothing_most 256)

pub loop-event-preserved : goal.loop-event-preserved
loop-event-preserved c = (
  subst (λ past. Tallies past c.add.new.counts c.add.new.opened) (sym (past_more c.args.log.now c.loop-event.event-index c.event-item.result (search rules) c.event-item.is))
      (c.add.ensures.tallies (reverse (take c.loop-event.event-index c.args.log.now)) c.loop-event.invariant.0),
  c.add.ensures.bounded c.loop-event.event-index c.loop-event.invariant.1,
)
