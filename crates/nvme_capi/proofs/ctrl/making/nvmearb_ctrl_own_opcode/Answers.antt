use Rattle.nvme_capi.proofs.ctrl.making.nvmearb_ctrl_own_opcode.Goals as goal

pub returns-clause-kept : goal.returns-clause-kept
returns-clause-kept c = λ pool k. record { front = λ m n. c.own_opcode.ensures.front pool (k.front m n) }
