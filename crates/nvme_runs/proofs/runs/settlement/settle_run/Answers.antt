-- Hosts that have the other ends of a front's rings are paired with its regions, and are no strangers.
use Rattle.std.proofs.Common.{rules}
use Rattle.nvme_front.proofs.HostPairs.{paired, hosts_are}
use Rattle.nvme_runs.proofs.Telling.{told_so, was_outstanding}
use Rattle.nvme_runs.proofs.runs.settlement.settle_run.Goals as goal

pub settle-requires-clause-hosts : goal.settle-requires-clause-hosts
settle-requires-clause-hosts g c = paired c.args.parts.front c.args.parts.feeders.items c.args.parts.drainers.items c.requires.fed c.requires.drained

pub run_error_of-requires : goal.run_error_of-requires
run_error_of-requires g c = record {
  hosts = λ is.
      c.in-Err.ensures.strangers.0 is
      (hosts_are c.args.parts.front c.args.parts.feeders.items c.args.parts.drainers.items c.requires.fed c.requires.drained);
}

pub returns-clause-gave_up : goal.returns-clause-gave_up
returns-clause-gave_up g c told submitted =
    let hosts = hosts_are c.args.parts.front c.args.parts.feeders.items c.args.parts.drainers.items c.requires.fed c.requires.drained in
    c.in-Err.ensures.outstanding (was_outstanding c.in-Err.error c.run_error_of.result (λ is. c.in-Err.ensures.strangers.0 is hosts) c.run_error_of.ensures.no_memory told)

pub returns-clause-faults : goal.returns-clause-faults
returns-clause-faults g c =
    let hosts = hosts_are c.args.parts.front c.args.parts.feeders.items c.args.parts.drainers.items c.requires.fed c.requires.drained in
    told_so c.in-Err.error c.run_error_of.result (λ is. c.in-Err.ensures.strangers.0 is hosts) c.run_error_of.ensures.outstanding c.run_error_of.ensures.no_memory

pub returns-in-Ok-clause-submitted : goal.returns-in-Ok-clause-submitted
returns-in-Ok-clause-submitted g c = c.if-not-all_submitted.ensures.0 (search rules)
