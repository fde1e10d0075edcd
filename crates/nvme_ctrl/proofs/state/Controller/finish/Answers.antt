use Rattle.std.proofs.Common.{◌∷◌, ap, refl, ◌∙◌}
use Rattle.std.specs.Prelude.{slice_set}
use Rattle.nvme_entry.specs.Status.{success}
use Rattle.nvme_log.specs.declared.event.Event.TheVariants as event
use Rattle.nvme_ctrl_log.specs.Notes.{Logged, Answered}
use Rattle.nvme_ctrl.specs.Steps.{HasFinished}
use Rattle.nvme_ctrl.specs.declared.state.SqState.{SqState}
use Rattle.nvme_ctrl.proofs.FinishCall.{closes, finish_call}
use Rattle.nvme_ctrl.proofs.state.Controller.finish.Goals as goal

-- a controller's queue whose deletion is pending is closing
pub returns-then-not-is_closing-clause-told : goal.returns-then-not-is_closing-clause-told
returns-then-not-is_closing-clause-told c = λ rules late notes s _.
    absurd (c.is_closing.ensures.no c.if-not-is_closing.true (closes rules late notes c.args.self.now c.args.slots.now s c.in_ok-qid.qid c.in_ok-qid.ensures.kept))

pub returns-clause-stands : goal.returns-clause-stands
returns-clause-stands c = λ rules late notes s.
    finish_call rules late notes c.args.self.now c.args.slots.now s c.in_ok-qid.qid c.in_ok-qid.ensures.kept c.sq-tag.result.tag c.saturating_sub-self.result
    c.finish_delete.new.self c.put_sq.new.self (record c.put_sq.new.self { pending_deletions = c.saturating_sub-self.result }) c.end.new.self c.end.new.slots
    (ap (λ (x : SqState). x.tag) c.sq-tag.ensures) c.finish_delete.ensures.stands
    (c.put_sq.ensures ∙ (λ j. record c.args.self.now { table = c.finish_delete.new.self; sqs = slice_set c.args.self.now.sqs c.in_ok-qid.qid (c.none.ensures j) }))
    c.saturating_sub-self.ensures refl c.end.ensures.kept

pub returns-clause-front : goal.returns-clause-front
returns-clause-front c h =
    let f : HasFinished h.rules h.late h.notes c.in_ok-qid.qid c.end.new.self c.end.new.slots = returns-clause-stands c h.rules h.late h.notes h.stands in
    record {
      rules = h.rules;
      late = h.late;
      notes = Answered 0 f.index (record { status = success; dw0 = 0 }) ∷ Logged (event.ClosedSq c.in_ok-qid.qid f.region) ∷ h.notes;
      stands = f.stands;
    }

pub returns-in_err-qid-clause-told : goal.returns-in_err-qid-clause-told
returns-in_err-qid-clause-told c = λ rules late notes s _.
    c.in_err-qid.ensures.none rules late notes c.args.slots.now s refl

pub returns-clause-first : goal.returns-clause-first
returns-clause-first c = λ rules late notes s. c.in_ok-qid.ensures.first rules late notes c.args.slots.now s
