use Rattle.std.proofs.Common.{◌≡◌, true, ap, ◌∙◌, refl}
use Rattle.nvme_ctrl.specs.declared.state.Controller.{Controller}
use Rattle.nvme_ctrl_log.specs.declared.status_flags.StatusFlags.{StatusFlags}
use Rattle.nvme_slots.specs.Pool.{slot_at, put_item, bit}
use Rattle.nvme_ctrl.specs.kept.QueueSets.{with_queue}
use Rattle.nvme_ctrl.specs.kept.State.{cq_at}
use Rattle.nvme_slots.proofs.Chains.{is_pushed}
use Rattle.nvme_ctrl.proofs.Ending.{keeps_end}
use Rattle.nvme_slots.proofs.Generations.{left_both, put_left, items_left}
use Rattle.nvme_ctrl.proofs.state.Controller.end.Goals as goal

pub returns-clause-kept : goal.returns-clause-kept
returns-clause-kept c = λ rules notes k g t h loose makes through cookie passed_as unflagged x life of_queue.
    let readied : c.with_queue-self.result ≡ with_queue c.args.self.now.readied c.args.cqid true =
    c.with_queue-self.ensures ∙ ap (λ (y : Controller). with_queue y.readied c.args.cqid true) c.push_ready.ensures.put in
    keeps_end rules notes c.args.self.now (record c.push_ready.new.self { readied = c.with_queue-self.result }) c.args.slots.now c.put_ended.new.slots c.push_ready.new.slots k g t c.args.tag c.args.state c.args.cqid c.args.dw0 c.args.status _ h
    (c.put_ended.ensures.slots ∙ ap (λ (f : StatusFlags). put_item c.args.slots.now c.args.tag (record (slot_at c.args.slots.now c.args.tag) {
      state = c.args.state;
      sct = c.args.status.sct;
      sc = c.args.status.sc;
      dw0 = c.args.dw0;
      more = bit f.more;
      do_not_retry = bit f.do_not_retry;
    })) c.of-flags.ensures)
    (is_pushed c.put_ended.new.slots c.push_ready.new.slots (cq_at c.args.self.now.cqs c.args.cqid).ready c.args.tag c.push_ready.ensures.slots c.push_ready.ensures.items)
    (λ j. record (c.push_ready.ensures.put j) { readied = readied j })
    c.put_ended.ensures.few_types loose makes through cookie passed_as unflagged x life of_queue

pub returns-clause-generations : goal.returns-clause-generations
returns-clause-generations c =
    left_both c.args.slots.now c.put_ended.new.slots c.push_ready.new.slots
    (put_left c.args.slots.now c.put_ended.new.slots c.args.tag _ c.put_ended.ensures.slots refl)
    (items_left c.put_ended.new.slots c.push_ready.new.slots c.push_ready.ensures.items)
