-- What each answer means; and a whole account posts no place twice.
use Rattle.std.proofs.Common.{rules, vec_len}
use Rattle.nvme_lane.specs.Limits.{IsOutside}
use Rattle.nvme_pool.specs.Limits.{max_workers}
use Rattle.nvme_workload.specs.Plan.{plan_of}
use Rattle.nvme_front.specs.Hosts.{sent_at, collected_at}
use Rattle.nvme_front.specs.Settles.{settled_past}
use Rattle.nvme_log.proofs.Posts.{one_post_each}
use Rattle.nvme_runs.specs.Runs.{rules_for}
use Rattle.nvme_runs.proofs.Meaning.{of_text, of_late, of_ok, of_write}
use Rattle.nvme_runs.proofs.TooLong.{passed_on}
use Rattle.nvme_runs.proofs.runs.run_with.Goals as goal

pub returns-in_err-workload-clause-means : goal.returns-in_err-workload-clause-means
returns-in_err-workload-clause-means g c =
    let e = c.in_err-workload.field-0.0 in
    let result = c.from_residual.result in
    let inside : IsOutside (vec_len c.args.gates) 1 max_workers → ⊥ = search rules in
    of_text _ _ _ _ _ _ result e (passed_on result e c.from_residual.ensures.1) inside c.in_err-workload.ensures.faults

pub returns-in_err-settled-clause-means : goal.returns-in_err-settled-clause-means
returns-in_err-settled-clause-means g c =
    let e = c.in_err-settled.field-0.0 in
    let result = c.from_residual-in_err-settled.result in
    let inside : IsOutside (vec_len c.args.gates) 1 max_workers → ⊥ = search rules in
    let read = c.in_ok-workload.ensures in
    of_late _ _ _ _ _ _ result e (plan_of c.in_ok-workload.workload) (passed_on result e c.from_residual-in_err-settled.ensures.1) inside read.read read.fit c.in_err-settled.ensures.faults

pub report-requires : goal.report-requires
report-requires g c =
    let s = c.in_ok-settled.settled in
    record { posted_once = one_post_each (rules_for (plan_of c.in_ok-workload.workload)) (sent_at s.sent.items) (settled_past s) (collected_at s.collected.items) c.in_ok-settled.ensures.account.account }

pub returns-in-Ok-clause-means : goal.returns-in-Ok-clause-means
returns-in-Ok-clause-means g c =
    let plan = plan_of c.in_ok-workload.workload in
    let inside : IsOutside (vec_len c.args.gates) 1 max_workers → ⊥ = search rules in
    let read = c.in_ok-workload.ensures in
    let done = c.in_ok-settled.ensures in
    of_ok _ _ _ _ _ _ c.report.new.writer (c.in_ok-settled.settled, c.in_ok-settled.gates) plan inside read.read read.fit
    (record { plan = plan; is_workload = read.read; hosts = done.hosts; account = done.account; answered = done.answered; loaded = done.loaded }) c.in-Ok.ensures

pub returns-in-Err-clause-means : goal.returns-in-Err-clause-means
returns-in-Err-clause-means g c =
    let plan = plan_of c.in_ok-workload.workload in
    let inside : IsOutside (vec_len c.args.gates) 1 max_workers → ⊥ = search rules in
    let read = c.in_ok-workload.ensures in
    let done = c.in_ok-settled.ensures in
    of_write _ _ _ _ _ _ c.report.new.writer c.in_ok-settled.settled plan inside read.read read.fit
    (record { plan = plan; is_workload = read.read; hosts = done.hosts; account = done.account; answered = done.answered; loaded = done.loaded }) c.in-Err.ensures
