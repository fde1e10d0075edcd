use Rattle.std.proofs.Common.{◌≡◌, ◌∙◌, ℕ, length, None, Some, sym, subst}
use Rattle.std.proofs.lemmas.Option.{same_Some}
use Rattle.nvme_ctrl.specs.Calls.{depth_of}
use Rattle.nvme_ctrl_log.specs.Calls.{MayFetch}
use Rattle.nvme_capi.proofs.ctrl.rings.next_is.Goals as goal

pub returns-then-it-slot-clause-this : goal.returns-then-it-slot-clause-this
returns-then-it-slot-clause-this c = λ slots _ rules late notes s.
    subst (λ (x : ℕ). MayFetch rules notes (depth_of c.args.ctrl.now c.args.qid) (length slots) c.args.qid x) c.if-it-slot.true (c.in-Some.ensures.may rules late notes slots s)

pub returns-else-it-slot-clause-other : goal.returns-else-it-slot-clause-other
returns-else-it-slot-clause-other c = λ slots _. record {
  some = λ rules late notes s. (c.in-Some.it, c.in-Some.ensures.may rules late notes slots s);
  not_this = λ rules late notes s may. c.if-it-slot.false (same_Some c.in-Some.it c.args.slot (sym c.in-Some.is ∙ c.fetch.ensures.told rules late notes slots s c.args.slot may));
}

pub returns-in-None-clause-none : goal.returns-in-None-clause-none
returns-in-None-clause-none c = λ slots _ rules late notes s it may.
    let lost : None ≡ Some it = sym c.in-None.is ∙ c.fetch.ensures.told rules late notes slots s it may in
    cc lost
