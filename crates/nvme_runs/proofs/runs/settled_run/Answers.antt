-- What each answer means, as of a run that writes nothing.
use Rattle.std.proofs.Common.{rules}
use Rattle.nvme_lane.specs.Limits.{IsOutside}
use Rattle.nvme_pool.specs.Limits.{max_workers}
use Rattle.nvme_workload.specs.Plan.{plan_of}
use Rattle.nvme_runs.specs.declared.runs.Ran.{Ran}
use Rattle.nvme_runs.specs.Ran.{settled_in, no_bytes}
use Rattle.nvme_runs.proofs.Meaning.{of_text, of_late, of_ok}
use Rattle.nvme_runs.proofs.TooLong.{passed_on}
use Rattle.nvme_runs.proofs.runs.settled_run.Goals as goal

pub returns-in_err-workload-clause-means : goal.returns-in_err-workload-clause-means
returns-in_err-workload-clause-means g c =
    let e = c.in_err-workload.field-0.0 in
    let result = c.from_residual-in_err-workload.result in
    let inside : IsOutside c.args.workers 1 max_workers → ⊥ = search rules in
    of_text {T = Ran} {W = Unit {0}} settled_in no_bytes c.args.text.now c.args.mode c.args.workers tt result e (passed_on result e c.from_residual-in_err-workload.ensures.1) inside
    c.in_err-workload.ensures.faults

pub returns-in_err-settled-clause-means : goal.returns-in_err-settled-clause-means
returns-in_err-settled-clause-means g c =
    let e = c.in_err-settled.field-0.0 in
    let result = c.from_residual-in_err-settled.result in
    let inside : IsOutside c.args.workers 1 max_workers → ⊥ = search rules in
    let read = c.in_ok-workload.ensures in
    of_late {T = Ran} {W = Unit {0}} settled_in no_bytes c.args.text.now c.args.mode c.args.workers tt result e (plan_of c.in_ok-workload.workload)
    (passed_on result e c.from_residual-in_err-settled.ensures.1) inside read.read read.fit c.in_err-settled.ensures.faults

pub returns-clause-means : goal.returns-clause-means
returns-clause-means g c =
    let plan = plan_of c.in_ok-workload.workload in
    let inside : IsOutside c.args.workers 1 max_workers → ⊥ = search rules in
    let read = c.in_ok-workload.ensures in
    let done = c.in_ok-settled.ensures in
    of_ok {T = Ran} {W = Unit {0}} settled_in no_bytes c.args.text.now c.args.mode c.args.workers tt tt
    (record { mechanism = c.in_ok-workload.workload.mechanism; settings = c.in_ok-workload.workload.settings; settled = c.in_ok-settled.settled }) plan inside read.read read.fit
    (record { plan = plan; is_workload = read.read; hosts = done.hosts; account = done.account; answered = done.answered; loaded = done.loaded }) tt
