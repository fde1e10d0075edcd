use Rattle.std.proofs.Common.{◌≢◌, ◌∷◌, refl, sym, ◌∙◌}
use Rattle.std.proofs.lemmas.Bool.{false≢true}
use Rattle.nvme_arbiter.specs.declared.settings.Class.TheVariants.{Admin}
use Rattle.nvme_ctrl_log.specs.Notes.{Classed}
use Rattle.nvme_ctrl.proofs.HoldCall.{open_is_shown, may_be_classed, class_call}
use Rattle.nvme_ctrl.proofs.state.Controller.set_class.Goals.{then-qid-eq0-via-then-qid-eq0, then-qid-eq0-via-else-qid-eq0+then-matches, in-Admin, in_default}
use Rattle.nvme_ctrl.proofs.state.Controller.set_class.Goals as goal

-- the class isn't that of the admin queue
class_of_io : (c : goal.After-show) → c.args.class ≢ Admin
class_of_io c is = elim c.match-matches.branch [
  | in-Admin w ↦ (let matched = w.matches-is in let not = c.if-matches.false in absurd (cc (matched, not)))
  | in_default w ↦ w.in_default.not-Admin is
]

pub returns-then-qid-eq0-clause-answer : goal.returns-then-qid-eq0-clause-answer
returns-then-qid-eq0-clause-answer c rules late notes pool s = (
  λ told. absurd (false≢true told),
  λ may. elim c.then-qid-eq0.branch [
    | then-qid-eq0-via-then-qid-eq0 w ↦ absurd (may.io w.if-qid-eq0.true)
    | then-qid-eq0-via-else-qid-eq0+then-matches w ↦ elim w.match-matches.branch [
      | in-Admin x ↦ absurd (may.class_of_io x.in-Admin.is)
      | in_default x ↦ (let not = x.matches-is in let matched = w.if-matches.true in absurd (cc (not, matched)))
    ]
  ],
)

pub returns-in_default-queue-clause-answer : goal.returns-in_default-queue-clause-answer
returns-in_default-queue-clause-answer c rules late notes pool s = (
  λ told. absurd (false≢true told),
  λ may. absurd (open_is_shown rules late notes c.args.self.now pool s c.args.qid (sym c.queue.ensures.is_there ∙ c.in_default-queue.is) may.queue may.is_open),
)

pub returns-clause-answer : goal.returns-clause-answer
returns-clause-answer c rules late notes pool s = (
  λ told. may_be_classed rules late notes c.args.self.now pool s c.args.qid c.in-Some.seen (sym c.queue.ensures.is_there ∙ c.in-Some.is) c.if-qid-eq0.false c.args.class (class_of_io c),
  λ may. refl,
)

pub returns-clause-stands : goal.returns-clause-stands
returns-clause-stands c rules late notes pool s told =
    class_call rules late notes c.args.self.now pool s c.args.qid c.in-Some.seen (sym c.queue.ensures.is_there ∙ c.in-Some.is) c.if-qid-eq0.false c.args.class (class_of_io c)
    c.show.new.board c.show.ensures.shown c.show.ensures.arbiter c.show.ensures.stands

pub returns-clause-front : goal.returns-clause-front
returns-clause-front c pool front = record {
  rules = front.rules;
  late = front.late;
  notes = Classed c.args.qid c.args.class ∷ front.notes;
  stands = returns-clause-stands c front.rules front.late front.notes pool front.stands refl;
}
