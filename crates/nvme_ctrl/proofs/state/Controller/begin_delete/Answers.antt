use Rattle.std.proofs.Common.{◌+◌, List, length, ap, sym, subst, refl, ◌∙◌}
use Rattle.std.specs.Prelude.{min, IsSome}
use Rattle.nvme_arbiter.specs.Layout.{board_of}
use Rattle.nvme_arbiter.specs.Queues.{queue_at}
use Rattle.nvme_ctrl.specs.declared.state.Controller.{Controller}
use Rattle.nvme_slots.specs.declared.slot.Slot.{Slot}
use Rattle.nvme_slots.specs.Pool.{slot_at}
use Rattle.nvme_slots.proofs.Pools.{length-put_item}
use Rattle.nvme_slots.proofs.Generations.{left_both, put_left}
use Rattle.nvme_ctrl.proofs.DeleteBegins.{keeps_counted, droppable_counted, begun_deleting, n_counted}
use Rattle.nvme_ctrl.proofs.state.Controller.begin_delete.Goals as goal

pub returns : goal.returns
returns c = record {
  own = ap (λ (z : Controller). z.own) c.put_closing.ensures ∙ ap (λ (z : Controller). z.own) c.drop_window.ensures.left ∙ ap (λ (z : Controller). z.own) c.put_sq.ensures;
  depths = ap (λ (z : Controller). z.depths) c.put_closing.ensures ∙ ap (λ (z : Controller). z.depths) c.drop_window.ensures.left ∙ ap (λ (z : Controller). z.depths) c.put_sq.ensures;
  size = ap (λ (s : List Slot). length s) c.put_state.ensures ∙ length-put_item c.drop_window.new.slots c.args.tag (record (slot_at c.drop_window.new.slots c.args.tag) { state = 6 }) ∙ c.drop_window.ensures.size;
  generations = left_both c.args.slots.now c.drop_window.new.slots c.put_state.new.slots c.drop_window.ensures.generations
      (put_left c.drop_window.new.slots c.put_state.new.slots c.args.tag _ c.put_state.ensures refl);
  begun = λ on_board rules notes k g region to candidate h none loose entry first unanswered cookie not_passed_on d few.
      let a = c.args.self.now in
      let n_is = c.saturating_add.ensures ∙ n_counted rules notes a c.args.slots.now k g c.args.qid region c.sq-sq.result h none d.there c.sq-sq.ensures few in
      let counted = keeps_counted rules notes a c.args.slots.now k g c.args.tag c.args.qid region to candidate h none loose entry unanswered cookie not_passed_on d first c.sq-sq.result c.saturating_add.result c.sq-sq.ensures n_is c.put_sq.new.self c.put_sq.ensures in
      let may = droppable_counted rules notes a c.args.slots.now k g c.args.tag c.args.qid region to candidate h none loose entry unanswered cookie not_passed_on d first c.sq-sq.result c.saturating_add.result c.sq-sq.ensures n_is c.put_sq.new.self c.put_sq.ensures in
      begun_deleting rules notes a c.args.slots.now k g c.args.tag c.args.qid region to candidate h none loose entry unanswered cookie not_passed_on d first c.sq-sq.result c.saturating_add.result c.sq-sq.ensures n_is c.put_sq.new.self c.put_sq.ensures
      c.drop_window.new.self _ c.drop_window.new.slots c.put_state.new.slots c.hide.new.board c.saturating_add-self.result
      (c.drop_window.ensures.dropped rules notes _ g region to c.args.tag counted (ap (λ (x : Controller). x.picked) c.put_sq.ensures ∙ none) may loose)
      (c.hide.ensures.closed (subst (λ (x : Controller). IsSome (queue_at (board_of x.board).queues c.args.qid)) (sym c.drop_window.ensures.left)
      (subst (λ (x : Controller). IsSome (queue_at (board_of x.board).queues c.args.qid)) (sym c.put_sq.ensures) on_board))) c.hide.ensures.arbiter c.put_state.ensures
      (c.saturating_add-self.ensures ∙ ap (λ (x : Controller). min (x.pending_deletions + 1) 65535) c.put_closing.ensures)
      (ap (λ (x : Controller). record x { pending_deletions = c.saturating_add-self.result }) c.put_closing.ensures);
}
