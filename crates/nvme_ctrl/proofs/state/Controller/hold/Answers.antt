use Rattle.std.proofs.Common.{◌≡◌, ℕ, ◌-◌, ◌∷◌, Bool, if◌then◌else◌, refl, sym, ap, subst, ◌∙◌}
use Rattle.std.proofs.lemmas.Bool.{false≢true}
use Rattle.std.specs.Prelude.{slice_set, min}
use Rattle.nvme_ctrl_log.specs.Notes.{Held}
use Rattle.nvme_ctrl.specs.declared.state.SqState.{SqState}
use Rattle.nvme_ctrl.specs.declared.state.Controller.{Controller}
use Rattle.nvme_ctrl.specs.inside.Fetching.{waiting_in}
use Rattle.nvme_ctrl.specs.kept.Kept.{StandsAt}
use Rattle.nvme_ctrl.proofs.HoldCall.{open_is_shown, held_state, may_be_held, hold_call}
use Rattle.nvme_ctrl.proofs.state.Controller.hold.Goals.{then-on, else-on}
use Rattle.nvme_ctrl.proofs.state.Controller.hold.Goals as goal

-- what waits in it
waits : (c : goal.After-put_sq) → c.saturating_sub-waiting.result ≡ waiting_in c.args.self.now c.args.qid
waits c = c.saturating_sub-waiting.ensures ∙ (λ i. (c.sq-sq.ensures i).window.len - c.picked_in.ensures i)

-- its count
counts : (c : goal.After-put_sq) → c.if-on.count ≡ (if c.args.on then 0 else min (waiting_in c.args.self.now c.args.qid) 256)
counts c =
    let most : ℕ = min (waiting_in c.args.self.now c.args.qid) 256 in
    elim c.if-on.branch [
      | then-on w ↦ w.count-is ∙ ap (λ (b : Bool). if b then 0 else most) (sym w.if-on.true)
      | else-on w ↦ w.count-is ∙ w.min-count.ensures ∙ ap (λ (n : ℕ). min n 256) (waits c) ∙ ap (λ (b : Bool). if b then 0 else most) (sym w.if-on.false)
    ]

pub returns-in_default-clause-answer : goal.returns-in_default-clause-answer
returns-in_default-clause-answer c rules late notes pool s = (
  λ told. absurd (false≢true told),
  λ may. absurd (open_is_shown rules late notes c.args.self.now pool s c.args.qid (sym c.queue.ensures.is_there ∙ c.in_default.is) may.queue may.is_open),
)

pub returns-clause-answer : goal.returns-clause-answer
returns-clause-answer c rules late notes pool s = (
  λ told. may_be_held rules late notes c.args.self.now pool s c.args.qid c.in-Some.seen (sym c.queue.ensures.is_there ∙ c.in-Some.is),
  λ may. refl,
)

pub returns-clause-stands : goal.returns-clause-stands
returns-clause-stands c rules late notes pool s told =
    let self : Controller = c.args.self.now in
    subst (λ (after : Controller). StandsAt rules late (Held c.args.qid c.args.on ∷ notes) after pool) (sym c.put_sq.ensures)
    (subst (λ (state : SqState). StandsAt rules late (Held c.args.qid c.args.on ∷ notes)
    (record self { board = c.show.new.board; sqs = slice_set self.sqs c.args.qid (held_state state c.bit.result) }) pool) (sym c.sq-sq.ensures)
    (hold_call rules late notes self pool s c.args.qid c.in-Some.seen (sym c.queue.ensures.is_there ∙ c.in-Some.is)
    c.args.on c.if-on.count c.bit.result c.show.new.board (counts c) c.bit.ensures c.show.ensures.shown c.show.ensures.arbiter c.show.ensures.stands))

pub returns-clause-front : goal.returns-clause-front
returns-clause-front c pool front = record {
  rules = front.rules;
  late = front.late;
  notes = Held c.args.qid c.args.on ∷ front.notes;
  stands = returns-clause-stands c front.rules front.late front.notes pool front.stands refl;
}
