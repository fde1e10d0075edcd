use Rattle.std.proofs.Common.{◌∙◌, ℕ, sym, ap, subst}
use Rattle.nvme_ctrl_log.specs.Calls.{IsTagOf}
use Rattle.nvme_slots.specs.Generations.{tag_at}
use Rattle.nvme_capi.proofs.SlotsOfTags.{told_slot}
use Rattle.nvme_capi.proofs.ctrl.lookups.nvmearb_ctrl_named.Goals as goal

pub returns-in-Some-clause-found : goal.returns-in-Some-clause-found
returns-in-Some-clause-found c = λ rules late notes s _.
    subst (λ (slot : ℕ). IsTagOf notes c.args.qid c.args.cid slot) (sym (told_slot c.args.slots.now c.number.result c.in-Some.it c.at.result c.number.ensures.back c.at.ensures)) (c.in-Some.ensures.found rules late notes s)

pub returns-in-Some-clause-current : goal.returns-in-Some-clause-current
returns-in-Some-clause-current c = λ _.
    c.number.ensures.back ∙ c.at.ensures ∙ ap (tag_at c.args.slots.now) (sym (told_slot c.args.slots.now c.number.result c.in-Some.it c.at.result c.number.ensures.back c.at.ensures))

pub returns-in-None-clause-nothing : goal.returns-in-None-clause-nothing
returns-in-None-clause-nothing c = λ rules late notes s _. c.named.ensures.none rules late notes s c.in-None.is
