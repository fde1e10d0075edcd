use Rattle.std.proofs.Common.{◌≡◌, ℕ, Option, Some, None, is_some, sym, ap, ◌∙◌}
use Rattle.std.specs.Prelude.{option_map}
use Rattle.nvme_placing.specs.Telling.{placing_of}
use Rattle.nvme_log.specs.Queues.{Queue}
use Rattle.nvme_ctrl.proofs.DoorbellCalls.{is_open, is_told_open, none_is_open, closing_is_not_open}
use Rattle.nvme_ctrl.proofs.ToldEffects.{is_anywhere}
use Rattle.nvme_ctrl.proofs.state.Controller.sq_region.Goals as goal

pub returns-in_err-queue-clause-told : goal.returns-in_err-queue-clause-told
returns-in_err-queue-clause-told c rules late notes pool s =
    ap (λ (o : Option ℕ). is_some o) c.from_residual.ensures
    ∙ sym (ap (λ (o : Option Queue). is_some o)
    (none_is_open rules late notes c.args.self.now pool s c.args.qid c.sq.result (c.sq.ensures.told s.content.table s.numbers.tells) c.in_err-queue.was))

pub returns-then-queue-clause-told : goal.returns-then-queue-clause-told
returns-then-queue-clause-told c rules late notes pool s =
    sym (ap (λ (o : Option Queue). is_some o)
    (closing_is_not_open rules late notes c.args.self.now pool s c.args.qid c.sq.result (c.sq.ensures.told s.content.table s.numbers.tells) c.in_ok-queue.queue c.in_ok-queue.was c.if-queue.true))

pub returns-else-queue-clause-told : goal.returns-else-queue-clause-told
returns-else-queue-clause-told c rules late notes pool s =
    let here = is_told_open rules late notes c.args.self.now pool s c.args.qid c.sq.result (c.sq.ensures.told s.content.table s.numbers.tells) c.in_ok-queue.queue c.in_ok-queue.was c.if-queue.false in
    sym (ap (λ (o : Option Queue). is_some o) (is_open rules late notes c.args.self.now pool s c.args.qid here.entry here.in_table here.opened))

pub returns-in_err-queue-clause-on_regions : goal.returns-in_err-queue-clause-on_regions
returns-in_err-queue-clause-on_regions c rules late notes pool s on =
    c.from_residual.ensures
    ∙ sym (ap (option_map (λ (queue : Queue). queue.region))
    (none_is_open rules late notes c.args.self.now pool s c.args.qid c.sq.result (c.sq.ensures.told s.content.table s.numbers.tells) c.in_err-queue.was))

pub returns-then-queue-clause-on_regions : goal.returns-then-queue-clause-on_regions
returns-then-queue-clause-on_regions c rules late notes pool s on =
    sym (ap (option_map (λ (queue : Queue). queue.region))
    (closing_is_not_open rules late notes c.args.self.now pool s c.args.qid c.sq.result (c.sq.ensures.told s.content.table s.numbers.tells) c.in_ok-queue.queue c.in_ok-queue.was c.if-queue.true))

pub returns-else-queue-clause-on_regions : goal.returns-else-queue-clause-on_regions
returns-else-queue-clause-on_regions c rules late notes pool s on =
    let none : placing_of c.args.self.now.table ≡ None = sym s.numbers.tells.placing ∙ s.holds.tabled.placing ∙ on in
    let there = sym (c.sq.ensures.on_region s.content.table s.numbers.tells none) ∙ c.in_ok-queue.was in
    ap (λ (r : ℕ). Some r) (c.region_told.ensures.on_regions none)
    ∙ sym (ap (option_map (λ (queue : Queue). queue.region)) (is_open rules late notes c.args.self.now pool s c.args.qid c.in_ok-queue.queue there c.if-queue.false))

pub returns-else-queue-clause-anywhere : goal.returns-else-queue-clause-anywhere
returns-else-queue-clause-anywhere c rules late notes pool s on = c.region_told.ensures.anywhere (is_anywhere rules late notes c.args.self.now pool s on)
