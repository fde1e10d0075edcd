use Rattle.nvme_ctrl.specs.declared.state.Controller.{Controller}
use Rattle.std.proofs.Common.{ℕ, ◌<◌, refl, sym, ap, ◌∙◌, subst}
use Rattle.nvme_arbiter.specs.Board.{BoardView}
use Rattle.nvme_arbiter.specs.Queues.{queue_at}
use Rattle.nvme_admin.specs.declared.effect.Effect.TheVariants as effect
use Rattle.nvme_admin.specs.declared.verdict.Verdict.TheVariants as verdict
use Rattle.nvme_ctrl_log.specs.Making.{slots_asked}
use Rattle.nvme_entry.specs.AdminCommand.{admin_command_of}
use Rattle.nvme_slots.specs.declared.slot.Slot.{Slot}
use Rattle.nvme_slots.specs.Pool.{slot_at}
use Rattle.nvme_ctrl.proofs.AppliedQueues.{opens_within, opens_free, opens_io}
use Rattle.nvme_ctrl.proofs.CarryOut.{ended_plain, ended_opened, ended_cq_opened, ended_cq_closed, ended_set, carried_as, carried_by, applied_as, some_asked}
use Rattle.nvme_ctrl.proofs.CarryQueues.{begins_on_board, ended_begun}
use Rattle.nvme_ctrl.proofs.CarryAbort.{carried_found, carried_none}
use Rattle.nvme_slots.proofs.Generations.{left_both}
use Rattle.nvme_ctrl_log.proofs.ToldVerdicts.{told_plain, told_sq, told_cq}
use Rattle.nvme_ctrl.proofs.state.Controller.carry_out.Goals.{then-abort, else-abort}
use Rattle.nvme_ctrl.proofs.state.Controller.carry_out.Goals as goal

pub returns-in-Done : goal.returns-in-Done
returns-in-Done c = record {
  own = ap (λ (z : Controller). z.own) c.end.ensures.left;
  depths = ap (λ (z : Controller). z.depths) c.end.ensures.left;
  size = c.end.ensures.size;
  generations = c.end.ensures.generations;
  stands = λ rules late notes v.
      let a = c.args.self.now in
      let did = effect.Done c.in-Done.status c.in-Done.dw0 in
      let this = verdict.Done c.in-Done.status c.in-Done.dw0 in
      carried_as rules late notes v a c.args.slots.now c.args.tag c.args.effect.now did c.end.new.self c.end.new.slots c.in-Done.is (λ h.
      let is = told_plain h.before.table.placing this v refl h.told in
      carried_by rules late notes c.end.new.self c.end.new.slots v this is
      (ended_plain rules late notes a c.args.slots.now c.args.tag did this (applied_as rules late notes a c.args.slots.now c.args.tag did v this is h) c.in-Done.status c.in-Done.dw0 tt refl refl
      c.end.new.self c.end.new.slots c.end.ensures.kept));
}

pub open_sq-requires : goal.open_sq-requires
open_sq-requires c = record { some = subst (λ (n : ℕ). 0 < n) (sym c.asked_slots-size.ensures) (some_asked _) }

pub open_cq-requires : goal.open_cq-requires
open_cq-requires c = record { some = subst (λ (n : ℕ). 0 < n) (sym c.asked_slots-size-in-OpenCq.ensures) (some_asked _) }

pub returns-in-OpenSq : goal.returns-in-OpenSq
returns-in-OpenSq c = record {
  own = ap (λ (z : Controller). z.own) c.end-in-OpenSq.ensures.left ∙ ap (λ (z : Controller). z.own) c.open_sq.ensures.left;
  depths = ap (λ (z : Controller). z.depths) c.end-in-OpenSq.ensures.left ∙ ap (λ (z : Controller). z.depths) c.open_sq.ensures.left;
  size = c.end-in-OpenSq.ensures.size;
  generations = c.end-in-OpenSq.ensures.generations;
  stands = λ rules late notes v.
      let a = c.args.self.now in
      let it = c.in-OpenSq in
      let did = effect.OpenSq it.qid it.region it.cqid it.cq_region it.class in
      carried_as rules late notes v a c.args.slots.now c.args.tag c.args.effect.now did c.end-in-OpenSq.new.self c.end-in-OpenSq.new.slots c.in-OpenSq.is (λ h.
      let t = told_sq h.before.table.placing it.qid it.region it.cqid it.class v h.told in
      let this = verdict.OpenSq it.qid t.0 it.cqid it.class in
      let now = applied_as rules late notes a c.args.slots.now c.args.tag did v this t.1 h in
      let free = ap (λ (v : BoardView). queue_at v.queues it.qid) now.keeps.numbers.board_is ∙ opens_free rules late notes a c.args.slots.now c.args.tag it.qid t.0 it.cqid it.class did now in
      carried_by rules late notes c.end-in-OpenSq.new.self c.end-in-OpenSq.new.slots v this t.1
      (ended_opened rules late notes a c.args.slots.now c.args.tag it.qid t.0 it.cqid _ it.class did now
      c.open_sq.new.self c.end-in-OpenSq.new.self c.end-in-OpenSq.new.slots (c.asked_slots-size.ensures ∙ ap (λ (s : Slot). slots_asked (admin_command_of s.entry)) {y = slot_at c.args.slots.now c.args.tag} c.slot_at.ensures)
      (c.open_sq.ensures.kept (opens_within rules late notes a c.args.slots.now c.args.tag it.qid t.0 it.cqid it.class did now) free
      (opens_io rules late notes a c.args.slots.now c.args.tag it.qid t.0 it.cqid it.class did now))
      c.end-in-OpenSq.ensures.kept));
}

pub returns-in-OpenCq : goal.returns-in-OpenCq
returns-in-OpenCq c = record {
  own = ap (λ (z : Controller). z.own) c.end-in-OpenCq.ensures.left ∙ ap (λ (z : Controller). z.own) c.open_cq.ensures.left;
  depths = ap (λ (z : Controller). z.depths) c.end-in-OpenCq.ensures.left ∙ ap (λ (z : Controller). z.depths) c.open_cq.ensures.left;
  size = c.end-in-OpenCq.ensures.size;
  generations = c.end-in-OpenCq.ensures.generations;
  stands = λ rules late notes v.
      let a = c.args.self.now in
      let it = c.in-OpenCq in
      let did = effect.OpenCq it.qid it.region in
      carried_as rules late notes v a c.args.slots.now c.args.tag c.args.effect.now did c.end-in-OpenCq.new.self c.end-in-OpenCq.new.slots c.in-OpenCq.is (λ h.
      let t = told_cq h.before.table.placing it.qid it.region v h.told in
      let this = verdict.OpenCq it.qid t.0 in
      carried_by rules late notes c.end-in-OpenCq.new.self c.end-in-OpenCq.new.slots v this t.1
      (ended_cq_opened rules late notes a c.args.slots.now c.args.tag it.qid t.0 _ did (applied_as rules late notes a c.args.slots.now c.args.tag did v this t.1 h)
      c.open_cq.new.self c.end-in-OpenCq.new.self c.end-in-OpenCq.new.slots
      (c.asked_slots-size-in-OpenCq.ensures ∙ ap (λ (s : Slot). slots_asked (admin_command_of s.entry)) c.slot_at-in-OpenCq.ensures) c.open_cq.ensures.kept c.end-in-OpenCq.ensures.kept));
}

pub returns-in-CloseCq : goal.returns-in-CloseCq
returns-in-CloseCq c = record {
  own = ap (λ (z : Controller). z.own) c.end-in-CloseCq.ensures.left ∙ ap (λ (z : Controller). z.own) c.close_cq.ensures.left;
  depths = ap (λ (z : Controller). z.depths) c.end-in-CloseCq.ensures.left ∙ ap (λ (z : Controller). z.depths) c.close_cq.ensures.left;
  size = c.end-in-CloseCq.ensures.size;
  generations = c.end-in-CloseCq.ensures.generations;
  stands = λ rules late notes v.
      let a = c.args.self.now in
      let did = effect.CloseCq c.in-CloseCq.qid c.in-CloseCq.region in
      let this = verdict.CloseCq c.in-CloseCq.qid in
      carried_as rules late notes v a c.args.slots.now c.args.tag c.args.effect.now did c.end-in-CloseCq.new.self c.end-in-CloseCq.new.slots c.in-CloseCq.is (λ h.
      let is = told_plain h.before.table.placing this v refl h.told in
      carried_by rules late notes c.end-in-CloseCq.new.self c.end-in-CloseCq.new.slots v this is
      (ended_cq_closed rules late notes a c.args.slots.now c.args.tag c.in-CloseCq.qid did (applied_as rules late notes a c.args.slots.now c.args.tag did v this is h)
      c.close_cq.new.self c.end-in-CloseCq.new.self c.end-in-CloseCq.new.slots c.close_cq.ensures.kept c.end-in-CloseCq.ensures.kept));
}

pub returns-in-BeginDelete : goal.returns-in-BeginDelete
returns-in-BeginDelete c = record {
  own = c.begin_delete.ensures.own;
  depths = c.begin_delete.ensures.depths;
  size = c.begin_delete.ensures.size;
  generations = c.begin_delete.ensures.generations;
  stands = λ rules late notes v.
      let a = c.args.self.now in
      let did = effect.BeginDelete c.in-BeginDelete.qid c.in-BeginDelete.region in
      let this = verdict.BeginDelete c.in-BeginDelete.qid in
      carried_as rules late notes v a c.args.slots.now c.args.tag c.args.effect.now did c.begin_delete.new.self c.begin_delete.new.slots c.in-BeginDelete.is (λ h.
      let is = told_plain h.before.table.placing this v refl h.told in
      let now = applied_as rules late notes a c.args.slots.now c.args.tag did v this is h in
      carried_by rules late notes c.begin_delete.new.self c.begin_delete.new.slots v this is
      (ended_begun rules late notes a c.args.slots.now c.args.tag c.in-BeginDelete.qid did now
      c.begin_delete.new.self c.begin_delete.new.slots (c.begin_delete.ensures.begun (begins_on_board rules late notes a c.args.slots.now c.args.tag c.in-BeginDelete.qid did now))));
}

pub returns-after-abort : goal.returns-after-abort
returns-after-abort c = record {
  own = ap (λ (z : Controller). z.own) c.end-in-Abort.ensures.left ∙ c.abort.ensures.own;
  depths = ap (λ (z : Controller). z.depths) c.end-in-Abort.ensures.left ∙ c.abort.ensures.depths;
  size = c.end-in-Abort.ensures.size ∙ c.abort.ensures.size;
  generations = left_both c.args.slots.now c.abort.new.slots c.end-in-Abort.new.slots c.abort.ensures.generations c.end-in-Abort.ensures.generations;
  stands = λ rules late notes v.
      let a = c.args.self.now in
      let did = effect.Abort c.in-Abort.sqid c.in-Abort.cid in
      let this = verdict.Abort c.in-Abort.sqid c.in-Abort.cid in
      carried_as rules late notes v a c.args.slots.now c.args.tag c.args.effect.now did c.end-in-Abort.new.self c.end-in-Abort.new.slots c.in-Abort.is (λ h.
      let is = told_plain h.before.table.placing this v refl h.told in
      let now = applied_as rules late notes a c.args.slots.now c.args.tag did v this is h in
      let end = c.end-in-Abort.ensures.kept in
      carried_by rules late notes c.end-in-Abort.new.self c.end-in-Abort.new.slots v this is
      (elim c.if-abort.branch [
        | then-abort w ↦ carried_found rules late notes a c.args.slots.now c.args.tag c.in-Abort.sqid c.in-Abort.cid did now c.abort.new.self c.abort.new.slots c.abort.result c.if-abort.dw0
            c.abort.ensures.aborted w.if-abort.true w.dw0-is c.end-in-Abort.new.self c.end-in-Abort.new.slots end
        | else-abort w ↦ carried_none rules late notes a c.args.slots.now c.args.tag c.in-Abort.sqid c.in-Abort.cid did now c.abort.new.self c.abort.new.slots c.abort.result c.if-abort.dw0
            c.abort.ensures.none c.abort.ensures.none_named w.if-abort.false w.dw0-is c.end-in-Abort.new.self c.end-in-Abort.new.slots end
      ]));
}

pub returns-in-SetArbitration : goal.returns-in-SetArbitration
returns-in-SetArbitration c = record {
  own = ap (λ (z : Controller). z.own) c.end-in-SetArbitration.ensures.left ∙ c.set_arbitration.ensures.own;
  depths = ap (λ (z : Controller). z.depths) c.end-in-SetArbitration.ensures.left ∙ c.set_arbitration.ensures.depths;
  size = c.end-in-SetArbitration.ensures.size;
  generations = c.end-in-SetArbitration.ensures.generations;
  stands = λ rules late notes v.
      let a = c.args.self.now in
      let did = effect.SetArbitration c.in-SetArbitration.settings in
      let this = verdict.SetArbitration c.in-SetArbitration.settings in
      carried_as rules late notes v a c.args.slots.now c.args.tag c.args.effect.now did c.end-in-SetArbitration.new.self c.end-in-SetArbitration.new.slots c.in-SetArbitration.is (λ h.
      let is = told_plain h.before.table.placing this v refl h.told in
      carried_by rules late notes c.end-in-SetArbitration.new.self c.end-in-SetArbitration.new.slots v this is
      (ended_set rules late notes a c.args.slots.now c.args.tag c.in-SetArbitration.settings did (applied_as rules late notes a c.args.slots.now c.args.tag did v this is h)
      c.set_arbitration.new.self c.end-in-SetArbitration.new.self c.end-in-SetArbitration.new.slots
      c.set_arbitration.ensures.kept c.set_arbitration.ensures.queues c.set_arbitration.ensures.stands
      c.end-in-SetArbitration.ensures.kept));
}
