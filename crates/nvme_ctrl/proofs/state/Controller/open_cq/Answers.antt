use Rattle.std.proofs.Common.{◌∙◌, ap, sym, subst}
use Rattle.std.specs.Prelude.{slice_set}
use Rattle.nvme_slots.specs.declared.ring.Ring.{Ring}
use Rattle.nvme_ctrl.specs.declared.state.CqState.{CqState}
use Rattle.nvme_ctrl.specs.declared.state.Controller.{Controller}
use Rattle.nvme_slots.specs.Rings.{first_ring}
use Rattle.nvme_ctrl.specs.inside.Loose.{Keeps}
use Rattle.nvme_ctrl_content.specs.Carrying.{opening_cq}
use Rattle.nvme_ctrl.proofs.Opening.{keeps_cq_opened}
use Rattle.nvme_ctrl.proofs.state.Controller.open_cq.Goals as goal

pub returns-clause-kept : goal.returns-clause-kept
returns-clause-kept c = λ rules notes slots k g x h o.
    let a = c.args.self.now in
    subst (λ (z : Controller). Keeps rules notes z slots (opening_cq k c.args.cqid x) g)
    (sym (c.put_cq.ensures ∙ ap (λ (r : Ring). record a { cqs = slice_set a.cqs c.args.cqid (record c.none.result { ring = r }) }) c.new.ensures.value
    ∙ ap (λ (s : CqState). record a { cqs = slice_set a.cqs c.args.cqid (record s { ring = first_ring c.args.size }) }) c.none.ensures))
    (keeps_cq_opened rules notes a slots k g c.args.cqid c.args.size x h o)
