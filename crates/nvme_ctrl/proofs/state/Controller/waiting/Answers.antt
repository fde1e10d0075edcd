use Rattle.std.proofs.Common.{◌-◌, not, true≢false, Option, ap, sym, ◌∙◌}
use Rattle.std.specs.Prelude.{is_some}
use Rattle.nvme_log.specs.Queues.{Queue}
use Rattle.nvme_ctrl.proofs.FetchCalls.{waits}
use Rattle.nvme_ctrl.proofs.state.Controller.waiting.Goals as goal

pub returns-clause-waits : goal.returns-clause-waits
returns-clause-waits c rules late notes pool s queue opened =
    c.saturating_sub.ensures ∙ (λ i. (c.sq.ensures i).window.len - c.picked_in.ensures i)
    ∙ sym (waits rules late notes c.args.self.now pool s c.args.qid queue.region (s.holds.lives.sqs c.args.qid queue opened))

pub returns-then-is_none-clause-waits : goal.returns-then-is_none-clause-waits
returns-then-is_none-clause-waits c rules late notes pool s queue opened =
    let told = c.sq_region.ensures.told rules late notes pool s ∙ ap (λ (o : Option Queue). is_some o) opened in
    absurd (true≢false (sym told ∙ c.is_none.ensures ∙ ap not c.if-is_none.true))

pub returns-clause-none : goal.returns-clause-none
returns-clause-none c rules late notes pool s closed =
    let told = c.sq_region.ensures.told rules late notes pool s ∙ ap (λ (o : Option Queue). is_some o) closed in
    absurd (true≢false (sym (c.is_none.ensures ∙ ap not c.if-is_none.false) ∙ told))
