use Rattle.std.proofs.Common.{sym, ap, ◌∙◌}
use Rattle.nvme_audit.specs.Lawful.{is_broken}
use Rattle.nvme_audit.proofs.StepLemmas.{match_false}
use Rattle.nvme_audit.proofs.VerdictLemmas.{said_stands, not_both}
use Rattle.nvme_audit.proofs.judge.Judge.judge.Goals as goal

pub returns-in_err-keep-clause-told : goal.returns-in_err-keep-clause-told
returns-in_err-keep-clause-told c = λ start past stands broken.
    not_both _ _ broken (ap is_broken (sym (said_stands start past c.args.self.now c.args.event.now _ c.said-verdict.result stands c.in_ok-ruled.ensures.ok c.said-verdict.ensures)) ∙ sym c.is_broken.ensures ∙ c.if-not-is_broken.true)

pub returns-in_ok-keep-clause-exact : goal.returns-in_ok-keep-clause-exact
returns-in_ok-keep-clause-exact c = λ start past stands. said_stands start past c.args.self.now c.args.event.now _ c.said-verdict.result stands c.in_ok-ruled.ensures.ok c.said-verdict.ensures

pub returns-else-not-is_broken-clause-exact : goal.returns-else-not-is_broken-clause-exact
returns-else-not-is_broken-clause-exact c = λ start past stands. said_stands start past c.args.self.now c.args.event.now _ c.said-verdict.result stands c.in_ok-ruled.ensures.ok c.said-verdict.ensures

pub returns-in_ok-keep-clause-stands : goal.returns-in_ok-keep-clause-stands
returns-in_ok-keep-clause-stands c = λ start past stands. match_false _ _ _ (sym c.is_broken.ensures ∙ c.if-not-is_broken.true) (c.in_ok-keep.ensures start past stands c.in_ok-ruled.ensures.ok)
