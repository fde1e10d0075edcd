use Rattle.std.proofs.Common.{Option, Some, sym, subst}
use Rattle.nvme_arbiter.specs.declared.pick.Pick.{Pick}
use Rattle.nvme_ctrl_log.specs.Steps.{IsNextPick}
use Rattle.nvme_capi.proofs.ctrl.commands.nvmearb_ctrl_peek.Goals as goal

pub returns-in-Some-clause-picked : goal.returns-in-Some-clause-picked
returns-in-Some-clause-picked c = λ rules late notes s _.
    subst (λ (pick : Pick). IsNextPick rules notes (Some pick)) (sym c.fields_of_pick.ensures.same)
    (subst (λ (o : Option Pick). IsNextPick rules notes o) c.in-Some.is (c.next_pick.ensures rules late notes s))
