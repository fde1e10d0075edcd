use Rattle.nvme_audit.proofs.VerdictLemmas.{said_stands}
use Rattle.nvme_audit.proofs.judge.Judge.judge_on.Goals as goal

pub returns-clause-exact : goal.returns-clause-exact
returns-clause-exact c = λ start past stands. said_stands start past c.args.self.now c.args.event.now _ c.said-verdict.result stands c.in_ok-ruled.ensures.ok c.said-verdict.ensures
