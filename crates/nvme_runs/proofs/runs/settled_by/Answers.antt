-- The parts that come back from a drive are those that were prepared, with what was done, and what is settled of them is the whole account.
use Rattle.nvme_runs.proofs.Driven.{few_feeders, gets_still, pool_kept, puts_still, scripts_seen, still_fed, still_drained}
use Rattle.nvme_runs.proofs.Accounts.{whole_account}
use Rattle.nvme_runs.proofs.Failing.{late_result}
use Rattle.nvme_runs.proofs.Settled.{has_its_hosts}
use Rattle.nvme_runs.proofs.Told.{gates_ran}
use Rattle.std.proofs.Common.{List, reverse, ap, ◌∙◌, subst}
use Rattle.nvme_log.specs.declared.event.Event.{Event}
use Rattle.nvme_front.specs.Hosts.{sent_at, collected_at}
use Rattle.nvme_front.specs.Settles.{settled_past}
use Rattle.nvme_lane.specs.declared.mode.Mode.{Mode}
use Rattle.nvme_runs.specs.Runs.{AllSubmitted, is_loaded}
use Rattle.nvme_runs.proofs.LoadedRuns.{run_is_loaded}
use Rattle.nvme_workload.specs.Plan.{plan_of}
use Rattle.nvme_runs.proofs.runs.settled_by.Goals as goal

pub settle_run-requires-clause-few : goal.settle_run-requires-clause-few
settle_run-requires-clause-few g c =
    few_feeders c.in_ok-parts.parts.feeders.items c.in_ok-parts-2.parts.feeders.items c.args.workload.submissions c.in_ok-parts.ensures.prepared.scripts
    c.in_ok-parts-2.ensures.feeders c.requires.sound.submission_count.1

pub settle_run-requires-clause-fed : goal.settle_run-requires-clause-fed
settle_run-requires-clause-fed g c =
    still_fed c.in_ok-parts.parts.front c.in_ok-parts-2.parts.front c.in_ok-parts.parts.feeders.items c.in_ok-parts-2.parts.feeders.items c.in_ok-parts.ensures.prepared.fed
    c.in_ok-parts-2.ensures.feeders c.in_ok-parts-2.ensures.front

pub settle_run-requires-clause-drained : goal.settle_run-requires-clause-drained
settle_run-requires-clause-drained g c =
    still_drained c.in_ok-parts.parts.front c.in_ok-parts-2.parts.front c.in_ok-parts.parts.drainers.items c.in_ok-parts-2.parts.drainers.items c.in_ok-parts.ensures.prepared.drained
    c.in_ok-parts-2.ensures.drainers c.in_ok-parts-2.ensures.front

pub settle_run-requires-clause-pool : goal.settle_run-requires-clause-pool
settle_run-requires-clause-pool g c =
    pool_kept (λ view ticket. g.G.Gate.left (g.G.Gate.entered view ticket) ticket) c.in_ok-parts.parts c.in_ok-parts-2.parts c.args.gates.items c.in_ok-parts-2.gates.items
    c.in_ok-parts.ensures.prepared.pool c.in_ok-parts-2.ensures.lanes c.in_ok-parts-2.ensures.front c.in_ok-parts-2.ensures.workers

pub returns-clause-hosts : goal.returns-clause-hosts
returns-clause-hosts g c =
    let before = c.in_ok-parts.parts in
    let after = c.in_ok-parts-2.parts in
    let prepared = c.in_ok-parts.ensures.prepared in
    let settled = c.in_ok-settled.ensures in
    has_its_hosts (plan_of c.args.workload) after.feeders.items before.drainers.items after.drainers.items c.in_ok-settled.settled
    (scripts_seen before.feeders.items after.feeders.items c.in_ok-parts-2.ensures.feeders ∙ prepared.scripts) settled.sent prepared.lists c.in_ok-parts-2.ensures.drainers settled.lists

pub returns-clause-account : goal.returns-clause-account
returns-clause-account g c =
    let before = c.in_ok-parts.parts in
    let after = c.in_ok-parts-2.parts in
    let prepared = c.in_ok-parts.ensures.prepared in
    let goes = c.in_ok-parts-2.ensures.front in
    let settled = c.in_ok-settled.ensures in
    whole_account (plan_of c.args.workload) c.args.mode after.front after.feeders.items c.in_ok-settled.settled
    (record {
      rules = goes.rules ∙ prepared.rules;
      account = settled.account (goes.late ∙ prepared.not_late) (gets_still before.front after.front goes prepared.admin_sq) (puts_still before.front after.front goes prepared.admin_cq);
      scripts = scripts_seen before.feeders.items after.feeders.items c.in_ok-parts-2.ensures.feeders ∙ prepared.scripts;
      log = settled.log;
      sent = settled.sent;
      settled = settled.settled;
      submitted = settled.submitted;
    })

pub returns-clause-gates : goal.returns-clause-gates
returns-clause-gates g c =
    let before = c.in_ok-parts.parts in
    let after = c.in_ok-parts-2.parts in
    gates_ran (λ view ticket. g.G.Gate.left (g.G.Gate.entered view ticket) ticket) after.front.rules.sizes (settled_past c.in_ok-settled.settled) after.front.hands.seat
    before.workers.items c.args.gates.items after.workers.items c.in_ok-parts-2.gates.items c.in_ok-parts.ensures.prepared.blank.worked c.in_ok-parts-2.ensures.workers
    c.in_ok-settled.ensures.executed

pub returns-clause-answered : goal.returns-clause-answered
returns-clause-answered g c = λ r i answered. let it = c.in_ok-settled.ensures.answered r i answered in (it.0, it.1)

pub returns-clause-loaded : goal.returns-clause-loaded
returns-clause-loaded g c = λ is.
    let before = c.in_ok-parts.parts in
    let after = c.in_ok-parts-2.parts in
    run_is_loaded (plan_of c.args.workload) before after.front (is_loaded c.args.mode) (sent_at c.in_ok-settled.settled.sent.items) (settled_past c.in_ok-settled.settled)
    (collected_at c.in_ok-settled.settled.collected.items) c.in_ok-parts.ensures.prepared
    (subst (λ (m : Mode). AllSubmitted m before.front before.feeders.items) is (c.are_loaded.ensures c.if-not-are_loaded.false is))
    c.in_ok-parts-2.ensures.front c.in_ok-parts-2.ensures.loaded (ap (λ (log : List Event). reverse log) c.in_ok-settled.ensures.log) (returns-clause-account g c)

pub returns-in_err-parts-2-clause-faults : goal.returns-in_err-parts-2-clause-faults
returns-in_err-parts-2-clause-faults g c =
    late_result (plan_of c.args.workload) c.in_ok-parts.parts c.in_err-parts-2.field-0.0 c.drive_fed.result c.from_residual-in_err-parts-2.result
    c.requires.sound c.in_ok-parts.ensures.prepared c.in_err-parts-2.was c.drive_fed.ensures.fault c.from_residual-in_err-parts-2.ensures.1
