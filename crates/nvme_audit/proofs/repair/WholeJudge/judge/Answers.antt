use Rattle.std.proofs.Common.{refl, ◌∙◌}
use Rattle.nvme_audit.proofs.RepairLemmas.{goes_on, said_is}
use Rattle.nvme_audit.proofs.repair.WholeJudge.judge.Goals as goal

pub returns-clause-stands : goal.returns-clause-stands
returns-clause-stands c = λ start past at.
    goes_on start past c.args.self.now _ c.let_go.new.self c.reopen.new.self c.args.event.now c.said_of-said.result c.done_at-done.result at
    (c.in_ok-verdict.ensures.stands start past at.stands) refl refl refl
    (c.said_of-said.ensures ∙ said_is start past c.args.event.now c.is_passed_over-is_passed_over.result _ (c.is_passed_over-is_passed_over.ensures start past at) (c.in_ok-verdict.ensures.exact start past at.stands))
    (c.done_at-done.ensures start past at.stands)
    c.in_ok-let_go.ensures
    c.in_ok-reopen.ensures
