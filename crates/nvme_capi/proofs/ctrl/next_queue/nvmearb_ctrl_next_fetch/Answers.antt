use Rattle.nvme_capi.proofs.ctrl.next_queue.nvmearb_ctrl_next_fetch.Goals as goal

pub returns-in-Some-clause-next : goal.returns-in-Some-clause-next
returns-in-Some-clause-next c = λ rules late notes slots s _. c.in-Some.ensures.next rules late notes slots s

pub returns-in-Some-clause-may : goal.returns-in-Some-clause-may
returns-in-Some-clause-may c = λ rules late notes slots s _. c.in-Some.ensures.slot rules late notes slots s

pub returns-in-None-clause-nothing : goal.returns-in-None-clause-nothing
returns-in-None-clause-nothing c = λ rules late notes slots s _ q has. c.next_fetch.ensures.none rules late notes slots s c.in-None.is q has
