use Rattle.std.proofs.Common.{◌∙◌, Some, ap}
use Rattle.nvme_admin.specs.declared.region.AdminError.{AdminError}
use Rattle.nvme_capi.proofs.Refusals.{not_done}
use Rattle.nvme_capi.proofs.ctrl.making.nvmearb_ctrl_add_cq_region.Goals as goal

pub returns-in-Ok-clause-number : goal.returns-in-Ok-clause-number
returns-in-Ok-clause-number c = λ rules late notes pool s _. c.from.ensures ∙ c.in-Ok.ensures.number rules late notes pool s

pub returns-in-Ok-clause-stands : goal.returns-in-Ok-clause-stands
returns-in-Ok-clause-stands c = λ rules late notes pool s _. c.in-Ok.ensures.stands rules late notes pool s

pub returns-in-Ok-clause-kept : goal.returns-in-Ok-clause-kept
returns-in-Ok-clause-kept c = λ pool k. record { front = λ m n. c.in-Ok.ensures.front pool (k.front m n) }

pub returns-in-Err-clause-stands : goal.returns-in-Err-clause-stands
returns-in-Err-clause-stands c = λ rules late notes pool s done. absurd (not_done c.refusal.result c.refusal.ensures.refused done)

pub returns-in-Err-clause-kept : goal.returns-in-Err-clause-kept
returns-in-Err-clause-kept c = λ pool k. record { front = λ m n. c.add_cq_region.ensures.front pool (k.front m n) }

pub returns-in-Ok-clause-added : goal.returns-in-Ok-clause-added
returns-in-Ok-clause-added c = λ rules late notes pool s _. c.in-Ok.ensures.added rules late notes pool s

pub returns-in-Err-clause-added : goal.returns-in-Err-clause-added
returns-in-Err-clause-added c = λ rules late notes pool s done. absurd (not_done c.refusal.result c.refusal.ensures.refused done)

pub returns-in-Err-clause-used : goal.returns-in-Err-clause-used
returns-in-Err-clause-used c = λ rules late notes pool s told. c.in-Err.ensures.refused rules late notes pool s ∙ ap (λ (e : AdminError). Some e) (c.refusal.ensures.used.0 told)

pub returns-in-Err-clause-too_many : goal.returns-in-Err-clause-too_many
returns-in-Err-clause-too_many c = λ rules late notes pool s told. c.in-Err.ensures.refused rules late notes pool s ∙ ap (λ (e : AdminError). Some e) (c.refusal.ensures.too_many.0 told)

pub returns-in-Err-clause-size : goal.returns-in-Err-clause-size
returns-in-Err-clause-size c = λ rules late notes pool s told. c.in-Err.ensures.refused rules late notes pool s ∙ ap (λ (e : AdminError). Some e) (c.refusal.ensures.size.0 told)
