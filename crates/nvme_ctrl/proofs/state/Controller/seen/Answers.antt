use Rattle.std.proofs.Common.{Option, sym, ap, ◌∙◌}
use Rattle.std.specs.Prelude.{option_map}
use Rattle.nvme_arbiter.specs.declared.pick.OpenQueue.{OpenQueue}
use Rattle.nvme_ctrl.proofs.SeenQueues.{seen_on, seen_is}
use Rattle.nvme_ctrl.proofs.state.Controller.seen.Goals as goal

pub returns-in_err-queue : goal.returns-in_err-queue
returns-in_err-queue c rules late notes pool s =
    c.from_residual.ensures
    ∙ ap (λ (o : Option OpenQueue). option_map (seen_on c.args.qid) o) (sym c.in_err-queue.was ∙ c.queue.ensures.is_there)
    ∙ seen_is rules late notes c.args.self.now pool s c.args.qid

pub returns : goal.returns
returns c rules late notes pool s =
    ap (λ (o : Option OpenQueue). option_map (seen_on c.args.qid) o) (sym c.in_ok-queue.was ∙ c.queue.ensures.is_there)
    ∙ seen_is rules late notes c.args.self.now pool s c.args.qid
