use Rattle.std.proofs.Common.{length, sym, ◌∙◌, eq-eqb, eqb-true}
use Rattle.nvme_ctrl.proofs.ClearPools.{all_done, all_free}
use Rattle.nvme_ctrl.proofs.state.Controller.is_clear.Goals as goal

pub returns : goal.returns
returns c rules late notes s = (
  λ yes. all_done rules late notes c.args.self.now c.args.slots.now s (sym c.from.ensures ∙ eqb-true c.from.result (length c.args.slots.now) yes),
  λ done. eq-eqb c.from.result (length c.args.slots.now) (c.from.ensures ∙ all_free rules late notes c.args.self.now c.args.slots.now s done),
)
