-- A run posts no place twice, and what its report tells is answered.
use Rattle.std.proofs.Common.{◌≡◌, refl, rules, Some}
use Rattle.nvme_front.specs.Hosts.{sent_at, collected_at}
use Rattle.nvme_front.specs.Settles.{settled_past}
use Rattle.nvme_log.proofs.Posts.{one_post_each}
use Rattle.nvme_runs.specs.Runs.{rules_for}
use Rattle.nvme_sim.proofs.Inputs.{bad_workload}
use Rattle.nvme_sim.proofs.commands.run.told.Goals as goal

pub rows_of-requires : goal.rows_of-requires
rows_of-requires g c =
    let s = c.in-Ok.ran.settled in
    let run = c.in-Ok.ensures.means.account in
    record { posted_once = one_post_each (rules_for run.plan) (sent_at s.sent.items) (settled_past s) (collected_at s.collected.items) run.account.account }

pub returns-in-Err-clause-input : goal.returns-in-Err-clause-input
returns-in-Err-clause-input g c =
    bad_workload (Some c.args.text.now) c.args.text.now c.in-Err.error refl c.in-Err.ensures.means.workload
