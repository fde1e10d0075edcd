use Rattle.std.proofs.Common.{ap, arith, List, ◌≡◌, ◌<◌, true, sym, subst, ◌∙◌}
use Rattle.std.specs.Prelude.{slice_set}
use Rattle.std.proofs.lemmas.List.{set-get_or}
use Rattle.nvme_slots.specs.declared.ring.Ring.{Ring}
use Rattle.nvme_ctrl.specs.kept.State.{no_cq_state}
use Rattle.nvme_ctrl.specs.Calls.{HeadRung}
use Rattle.nvme_ctrl.specs.declared.state.Controller.{Controller}
use Rattle.nvme_ctrl.specs.declared.state.CqState.{CqState}
use Rattle.nvme_ctrl.proofs.DoorbellCalls.{front_either, head_told, head_stands, ring_cq_lives, HeadAnswer, HeadCounts}
use Rattle.nvme_ctrl.proofs.state.Controller.cq_head.Goals as goal

pub returns-clause-answer : goal.returns-clause-answer
returns-clause-answer c rules late notes slots s =
    let w = c.read_to-rung.ensures in
    head_told rules late notes c.args.self.now slots s c.args.cqid c.args.slot c.read_to-rung.result
    (subst (λ (state : CqState). HeadAnswer state.ring c.args.slot c.read_to-rung.result) c.cq-cq.ensures w.answer)
    (subst (λ (state : CqState). c.read_to-rung.result ≡ true → c.args.slot < state.ring.slots) c.cq-cq.ensures w.slot)

pub returns-clause-stands : goal.returns-clause-stands
returns-clause-stands c rules late notes slots s rang =
    let w = c.read_to-rung.ensures in
    let self : Controller = c.args.self.now in
    let new = c.read_to-rung.new.self in
    let is_slot = subst (λ (state : CqState). c.read_to-rung.result ≡ true → c.args.slot < state.ring.slots) c.cq-cq.ensures w.slot in
    let l = ring_cq_lives rules late notes self slots s c.args.cqid (let below = is_slot rang in omega (arith, below)) in
    subst (λ (after : Controller). HeadRung rules late notes c.args.cqid c.args.slot after slots) (sym c.put_cq.ensures)
    (subst (λ (state : CqState). HeadRung rules late notes c.args.cqid c.args.slot (record self { cqs = slice_set self.cqs c.args.cqid (record state { ring = new }) }) slots) (sym c.cq-cq.ensures)
    (head_stands rules late notes self slots s c.args.cqid c.args.slot l.region (sym (s.holds.queues.cqs c.args.cqid) ∙ sym (s.holds.lives.cqs c.args.cqid) ∙ l.life) c.read_to-rung.result
    (subst (λ (state : CqState). HeadAnswer state.ring c.args.slot c.read_to-rung.result) c.cq-cq.ensures w.answer) is_slot
    new rang
    (subst (λ (state : CqState). HeadCounts state.ring c.args.slot c.read_to-rung.result new) c.cq-cq.ensures w.counts)
    (subst (λ (state : CqState). new.slots ≡ state.ring.slots) c.cq-cq.ensures w.slots)))

pub returns-clause-front : goal.returns-clause-front
returns-clause-front c slots front =
    front_either c.read_to-rung.result c.args.self.now c.put_cq.new.self slots
    (λ rang. let now = returns-clause-stands c front.rules front.late front.notes slots front.stands rang in record { rules = front.rules; late = front.late; notes = _; stands = now.stands })
    (λ no.
    let self : Controller = c.args.self.now in
    c.put_cq.ensures
    ∙ ap (λ (ring : Ring). record self { cqs = slice_set self.cqs c.args.cqid (record c.cq-cq.result { ring = ring }) }) (c.read_to-rung.ensures.refused no)
    ∙ ap (λ (state : CqState). record self { cqs = slice_set self.cqs c.args.cqid state }) c.cq-cq.ensures
    ∙ ap (λ (states : List CqState). record self { cqs = states }) (set-get_or self.cqs c.args.cqid no_cq_state)) front
