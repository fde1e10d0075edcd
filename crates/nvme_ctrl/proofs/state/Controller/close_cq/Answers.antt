use Rattle.std.proofs.Common.{◌∙◌, ap, sym, subst}
use Rattle.std.specs.Prelude.{slice_set}
use Rattle.nvme_ctrl.specs.declared.state.CqState.{CqState}
use Rattle.nvme_ctrl.specs.declared.state.Controller.{Controller}
use Rattle.nvme_ctrl.specs.inside.Loose.{Keeps}
use Rattle.nvme_ctrl_content.specs.Carrying.{closing_cq}
use Rattle.nvme_ctrl.proofs.Opening.{keeps_cq_closed}
use Rattle.nvme_ctrl.proofs.state.Controller.close_cq.Goals as goal

pub returns-clause-kept : goal.returns-clause-kept
returns-clause-kept c = λ rules notes slots k g x h life none u.
    subst (λ (z : Controller). Keeps rules notes z slots (closing_cq k c.args.cqid x) g) (sym (c.put_cq.ensures ∙ ap (λ (s : CqState). record c.args.self.now { cqs = slice_set c.args.self.now.cqs c.args.cqid s }) c.none.ensures))
    (keeps_cq_closed rules notes c.args.self.now slots k g c.args.cqid x h life none u)
