use Rattle.std.proofs.Common.{◌≡◌, take, sym, ◌∙◌, arith}
use Rattle.std.proofs.lemmas.List.{take_all}
use Rattle.nvme_audit.specs.Lawful.{log_after, IsLawfulRun}
use Rattle.nvme_audit.specs.Standing.{StandsAt}
use Rattle.nvme_audit.proofs.RunLemmas.{run_step, run_broken}
use Rattle.nvme_audit.proofs.judge.Judge.judge_run.Goals as goal

pub loop-i-preserved : goal.loop-i-preserved
loop-i-preserved c = λ start past stands.
    let before : IsLawfulRun start past (take c.loop-i.i c.args.events.now) × StandsAt start (log_after past (take c.loop-i.i c.args.events.now)) c.loop-i.self = c.loop-i.invariant start past stands in
    run_step start past c.args.events.now c.loop-i.i c.index-events-i.result c.in_ok-rule.field-0 c.loop-i.self c.judge.new.self (omega arith) c.index-events-i.is (c.in_ok-rule.ensures.exact start _ before.1) c.in_default.not-Broken (c.in_ok-rule.ensures.stands start _ before.1) before.0

pub returns-in-Broken : goal.returns-in-Broken
returns-in-Broken c = λ start past stands.
    let before : IsLawfulRun start past (take c.loop-i.i c.args.events.now) × StandsAt start (log_after past (take c.loop-i.i c.args.events.now)) c.loop-i.self = c.loop-i.invariant start past stands in
    run_broken start past c.args.events.now c.loop-i.i c.index-events-i.result c.in-Broken.rule (omega arith) c.index-events-i.is (sym c.in-Broken.is ∙ c.in_ok-rule.ensures.exact start _ before.1) before.0

pub returns : goal.returns
returns c = λ start past stands.
    let all : take c.loop-i.i c.args.events.now ≡ c.args.events.now = take_all c.loop-i.i c.args.events.now (omega arith) in
    rw all at (c.loop-i.invariant start past stands)
