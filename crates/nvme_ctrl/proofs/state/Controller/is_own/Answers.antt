use Rattle.std.proofs.Common.{◌≡◌, ◌&&◌, Bool, true, sym, ap, ◌∙◌}
use Rattle.nvme_entry.specs.AdminCommand.{admin_command_of}
use Rattle.nvme_entry.specs.declared.submission.Sqe.{Sqe}
use Rattle.nvme_ctrl_log.specs.Notes.{logged}
use Rattle.nvme_ctrl.specs.Own.{kind_is_own, is_own}
use Rattle.nvme_ctrl_log.specs.Own.{names_none}
use Rattle.nvme_slots.specs.declared.slot.Slot.{Slot}
use Rattle.nvme_ctrl.specs.declared.state.SqState.{SqState}
use Rattle.nvme_ctrl.specs.inside.Picks.{oldest_entry}
use Rattle.nvme_slots.specs.Pool.{slot_at}
use Rattle.nvme_ctrl.proofs.state.Controller.is_own.Goals as goal

pub returns-then-has : goal.returns-then-has
returns-then-has c rules late notes s none =
    let self = c.args.self.now in
    let slots = c.args.slots.now in
    let entry : Sqe = c.slot_at-oldest.result.entry in
    let same : entry ≡ oldest_entry self slots =
    ap (λ (x : Slot). x.entry) c.slot_at-oldest.ensures ∙ ap (λ (x : SqState). (slot_at slots x.window.first).entry) c.sq.ensures in
    let kind : kind_is_own self.own entry ≡ true = sym c.has.ensures ∙ c.if-has.true in
    c.names_none.ensures rules late notes s none
    ∙ ap (λ (b : Bool). b && names_none (logged notes) (admin_command_of entry)) (sym kind)
    ∙ ap (λ (e : Sqe). is_own self.own (logged notes) e) same
