use Rattle.std.proofs.Common.{◌≡◌, Some, sym, subst}
use Rattle.nvme_ctrl_log.specs.Tags.{cookie_of}
use Rattle.nvme_slots.specs.declared.slot.Slot.{Slot}
use Rattle.nvme_ctrl.proofs.OutEntries.{out_cookie}
use Rattle.nvme_ctrl.proofs.state.Controller.cookie.Goals as goal

pub returns-clause-out : goal.returns-clause-out
returns-clause-out c rules late notes s place held out =
    subst (λ (slot : Slot). cookie_of notes place.region place.index ≡ Some slot.cookie) (sym c.slot_at.ensures)
    (out_cookie rules late notes c.args.self.now c.args.slots.now s c.args.tag place held out)
