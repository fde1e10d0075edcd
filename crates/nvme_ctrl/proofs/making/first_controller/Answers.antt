use Rattle.std.proofs.Common.{◌≡◌, ℕ, ◌<◌, ◌^◌, [], false, length, subst, sym}
use Rattle.nvme_ctrl.specs.declared.state.Controller.{Controller}
use Rattle.nvme_ctrl_log.specs.Calls.{equal_depths}
use Rattle.nvme_ctrl.specs.kept.Kept.{StandsAt}
use Rattle.nvme_ctrl.proofs.NewCall.{made, new-stands}
use Rattle.nvme_ctrl.proofs.making.first_controller.Goals as goal

pub returns-clause-stands : goal.returns-clause-stands
returns-clause-stands c rules first =
    let a = c.args in
    let board = c.first_board.result in
    let one : Controller = made a.table board a.sq_slots a.cq_slots (equal_depths a.depth) c.all_free.result in
    let is : record one { sqs = c.first_sqs.result; cqs = c.first_cqs.result; own = c.none.result } ≡ one =
    λ i. record one { sqs = c.first_sqs.ensures i; cqs = c.first_cqs.ensures i; own = c.none.ensures i } in
    subst (λ (x : Controller). StandsAt rules false [] x c.all_free.new.slots) (sym is)
    (new-stands rules a.mechanism a.settings a.table a.sq_slots a.cq_slots first board (equal_depths a.depth) c.all_free.new.slots c.all_free.result (length a.slots.now)
    c.first_board.ensures.stands c.first_board.ensures.queues c.first_board.ensures.is_arbiter c.requires.some_sq c.requires.some_cq
    c.all_free.ensures.chain c.all_free.ensures.free (subst (λ (n : ℕ). n < 2 ^ 16) (sym c.all_free.ensures.size) c.requires.few) c.all_free.ensures.size)
