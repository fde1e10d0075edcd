use Rattle.std.proofs.Common.{◌≡◌, ◌∙◌, false, [], sym, ap, subst}
use Rattle.nvme_log.specs.Rules.{FrontRules}
use Rattle.nvme_engine.specs.Standing.{StandsAt}
use Rattle.nvme_front.specs.declared.state.FrontState.{FrontState}
use Rattle.nvme_front.specs.inside.Goes.{HasAdmin}
use Rattle.nvme_front.specs.inside.Room.{IsRoomy}
use Rattle.nvme_front.specs.inside.State.{rules_of}
use Rattle.nvme_front.proofs.Beginnings.{rules_at-all}
use Rattle.nvme_front.proofs.FirstRuns.{consistent_first, room_with}
use Rattle.nvme_front.proofs.state.FrontState.begin.Goals as goal

-- a state with another engine, and then with another
with_engines : (s t u : FrontState) → t ≡ record s { engine = t.engine } → u ≡ record t { engine = u.engine } → u ≡ record s { engine = u.engine }
with_engines s t u first second = second ∙ ap (λ (z : FrontState). record z { engine = u.engine }) first

pub give_sqs-requires-clause-roomy : goal.give_sqs-requires-clause-roomy
give_sqs-requires-clause-roomy c = subst IsRoomy (sym c.start_engine.ensures.same) (room_with c.args.self.now c.start_engine.new.self.engine c.requires.roomy)

pub give_sqs-requires-clause-admin : goal.give_sqs-requires-clause-admin
give_sqs-requires-clause-admin c = subst HasAdmin (sym c.start_engine.ensures.same) (c.has_admin.ensures.0 c.if-has_admin.true)

pub give_cqs-requires-clause-roomy : goal.give_cqs-requires-clause-roomy
give_cqs-requires-clause-roomy c =
    let s : FrontState = c.args.self.now in
    let same = with_engines s c.start_engine.new.self c.give_sqs.new.self c.start_engine.ensures.same c.give_sqs.ensures.same in
    subst IsRoomy (sym same) (room_with s c.give_sqs.new.self.engine c.requires.roomy)

pub give_cqs-requires-clause-admin : goal.give_cqs-requires-clause-admin
give_cqs-requires-clause-admin c =
    let s : FrontState = c.args.self.now in
    let same = with_engines s c.start_engine.new.self c.give_sqs.new.self c.start_engine.ensures.same c.give_sqs.ensures.same in
    subst HasAdmin (sym same) (c.has_admin.ensures.0 c.if-has_admin.true)

pub returns-then-has_admin-clause-consistent : goal.returns-then-has_admin-clause-consistent
returns-then-has_admin-clause-consistent c =
    let s : FrontState = c.args.self.now in
    let t : FrontState = c.give_sqs.new.self in
    let u : FrontState = c.give_cqs.new.self in
    let same = with_engines s c.start_engine.new.self t c.start_engine.ensures.same c.give_sqs.ensures.same in
    consistent_first s u c.requires.fresh c.requires.roomy (c.has_admin.ensures.0 c.if-has_admin.true) (with_engines s t u same c.give_cqs.ensures.same)
    (subst (λ (rules : FrontRules). StandsAt rules false [] u.engine) (rules_at-all t ∙ ap rules_of same) c.give_cqs.ensures.stands)
