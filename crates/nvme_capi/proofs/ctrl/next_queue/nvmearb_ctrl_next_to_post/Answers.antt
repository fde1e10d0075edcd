use Rattle.nvme_capi.proofs.ctrl.next_queue.nvmearb_ctrl_next_to_post.Goals as goal

pub returns-in-Some-clause-next : goal.returns-in-Some-clause-next
returns-in-Some-clause-next c = λ _. c.in-Some.ensures.next

pub returns-in-None-clause-nothing : goal.returns-in-None-clause-nothing
returns-in-None-clause-nothing c = λ _ q. c.next_to_post.ensures.none c.in-None.is q
