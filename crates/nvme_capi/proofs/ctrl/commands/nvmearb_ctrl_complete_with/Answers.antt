use Rattle.std.proofs.Common.{◌≡◌, ◌<◌, true, false, subst}
use Rattle.std.specs.Prelude.{IsFalse}
use Rattle.nvme_ctrl.specs.Calls.{HasAnswered}
use Rattle.nvme_slots.specs.Generations.{tag_of}
use Rattle.nvme_ctrl_log.specs.declared.status_flags.StatusFlags.{StatusFlags}
use Rattle.nvme_capi.specs.Controllers.{is_ctrl, has_slots, device_answer}
use Rattle.nvme_capi.proofs.Refusals.{no_flags}
use Rattle.nvme_capi.proofs.ctrl.commands.nvmearb_ctrl_complete_with.Goals as goal

pub returns-clause-stands : goal.returns-clause-stands
returns-clause-stands c = λ rules late notes s done.
    subst (λ (flags : StatusFlags). HasAnswered rules late notes (tag_of c.args.tag).slot (device_answer c.args.status.now c.args.dw0) flags c.complete_flagged.new.state.ctrl c.complete_flagged.new.slots)
    c.in-Some.ensures.some (c.complete_flagged.ensures.stands rules late notes s done)

pub returns-clause-bad_argument : goal.returns-clause-bad_argument
returns-clause-bad_argument c =
    no_flags c.complete_flagged.result (is_ctrl c.args.state.now) (IsFalse (has_slots c.args.state.now c.args.slots.now)) (7 < c.args.status.now.sct) (3 < c.args.flags)
    c.complete_flagged.ensures.bad_argument (λ above. (let lost : true ≡ false = c.in-Some.ensures.none.1 above in cc lost))
