use Rattle.nvme_capi.proofs.ctrl.holds.nvmearb_ctrl_set_depth.Goals as goal

pub returns-clause-kept : goal.returns-clause-kept
returns-clause-kept c = λ pool k. record { front = λ m n. c.set_depth.ensures.front pool (k.front m n) }
