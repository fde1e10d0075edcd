use Rattle.std.proofs.Common.{◌≡◌, Some, sym, subst}
use Rattle.nvme_log.specs.Places.{entry_at}
use Rattle.nvme_ctrl_log.specs.Notes.{logged}
use Rattle.nvme_slots.specs.declared.slot.Slot.{Slot}
use Rattle.nvme_ctrl.proofs.OutEntries.{out_entry}
use Rattle.nvme_ctrl.proofs.state.Controller.entry.Goals as goal

pub returns-clause-out : goal.returns-clause-out
returns-clause-out c rules late notes s place held out =
    subst (λ (slot : Slot). entry_at (logged notes) place.region place.index ≡ Some slot.entry) (sym c.slot_at.ensures)
    (out_entry rules late notes c.args.self.now c.args.slots.now s c.args.tag place held out)
