use Rattle.std.proofs.Common.{◌≡◌, ◌<◌, Bool, true, sym, ap, subst, ◌∙◌, arith}
use Rattle.std.specs.Prelude.{◌↔◌, IsTrue}
use Rattle.std.proofs.lemmas.Bool.{false≢true}
use Rattle.nvme_ctrl.specs.Calls.{TailRung}
use Rattle.nvme_ctrl_log.specs.Calls.{IsTailOf}
use Rattle.nvme_ctrl.specs.declared.state.Controller.{Controller}
use Rattle.nvme_ctrl.specs.declared.state.SqState.{SqState}
use Rattle.nvme_ctrl.proofs.DoorbellCalls.{open_unclosing, unclosing_is_open, ring_lives, tail_told, tail_stands, TailAnswer, TailCounts}
use Rattle.nvme_ctrl.specs.kept.QueueSets.{with_queue}
use Rattle.nvme_ctrl.proofs.state.Controller.sq_tail.Goals as goal

pub returns-then-sq-ne0-clause-answer : goal.returns-then-sq-ne0-clause-answer
returns-then-sq-ne0-clause-answer c rules late notes slots s = (
  λ rang. absurd (false≢true rang),
  λ tail. absurd (c.if-sq-ne0.true (ap (λ (state : SqState). state.closing) c.sq-sq.ensures ∙ open_unclosing rules late notes c.args.self.now slots s c.args.qid tail.queue tail.is_open)),
)

pub returns-then-not-write_to-clause-answer : goal.returns-then-not-write_to-clause-answer
returns-then-not-write_to-clause-answer c rules late notes slots s =
    let w = c.write_to.ensures in
    subst (λ (rung : Bool). IsTrue rung ↔ IsTailOf rules notes c.args.qid c.args.slot) c.if-not-write_to.true
    (tail_told rules late notes c.args.self.now slots s c.args.qid c.args.slot c.write_to.result (ap (λ (state : SqState). state.closing) (sym c.sq-sq.ensures) ∙ c.if-sq-ne0.false)
    (subst (λ (state : SqState). TailAnswer state.ring c.args.slot c.write_to.result) c.sq-sq.ensures w.answer)
    (subst (λ (state : SqState). c.write_to.result ≡ true → c.args.slot < state.ring.slots) c.sq-sq.ensures w.slot))

pub returns-clause-answer : goal.returns-clause-answer
returns-clause-answer c rules late notes slots s =
    let w = c.write_to.ensures in
    subst (λ (rung : Bool). IsTrue rung ↔ IsTailOf rules notes c.args.qid c.args.slot) c.if-not-write_to.false
    (tail_told rules late notes c.args.self.now slots s c.args.qid c.args.slot c.write_to.result (ap (λ (state : SqState). state.closing) (sym c.sq-sq.ensures) ∙ c.if-sq-ne0.false)
    (subst (λ (state : SqState). TailAnswer state.ring c.args.slot c.write_to.result) c.sq-sq.ensures w.answer)
    (subst (λ (state : SqState). c.write_to.result ≡ true → c.args.slot < state.ring.slots) c.sq-sq.ensures w.slot))

pub returns-clause-stands : goal.returns-clause-stands
returns-clause-stands c rules late notes slots s rang =
    let w = c.write_to.ensures in
    let self : Controller = c.args.self.now in
    let new = c.write_to.new.self in
    let is_slot = subst (λ (state : SqState). c.write_to.result ≡ true → c.args.slot < state.ring.slots) c.sq-sq.ensures w.slot in
    let l = ring_lives rules late notes self slots s c.args.qid (let below = is_slot c.if-not-write_to.false in omega (arith, below)) in
    let here = unclosing_is_open rules late notes self slots s c.args.qid l.region l.life (ap (λ (state : SqState). state.closing) (sym c.sq-sq.ensures) ∙ c.if-sq-ne0.false) in
    let rung : c.with_queue-self.result ≡ with_queue self.rung c.args.qid true = c.with_queue-self.ensures ∙ ap (λ (after : Controller). with_queue after.rung c.args.qid true) c.put_ring.ensures in
    subst (λ (after : Controller). TailRung rules late notes c.args.qid c.args.slot after slots) (sym (λ j. record (c.put_ring.ensures j) { rung = rung j }))
    (tail_stands rules late notes self slots s c.args.qid c.args.slot here.entry here.in_table here.opened c.write_to.result
    (subst (λ (state : SqState). TailAnswer state.ring c.args.slot c.write_to.result) c.sq-sq.ensures w.answer) is_slot
    new c.if-not-write_to.false
    (subst (λ (state : SqState). TailCounts state.ring c.args.slot c.write_to.result new) c.sq-sq.ensures w.counts)
    (subst (λ (state : SqState). new.slots ≡ state.ring.slots) c.sq-sq.ensures w.slots))

pub returns-clause-front : goal.returns-clause-front
returns-clause-front c slots front =
    let now = returns-clause-stands c front.rules front.late front.notes slots front.stands (λ i. true) in
    record { rules = front.rules; late = front.late; notes = _; stands = now.stands }
