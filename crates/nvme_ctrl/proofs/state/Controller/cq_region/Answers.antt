use Rattle.nvme_ctrl.proofs.ToldEffects.{is_anywhere}
use Rattle.nvme_placing.specs.Telling.{placing_of}
use Rattle.std.proofs.Common.{◌≡◌, ◌∙◌, ℕ, Option, Some, None, is_some, sym, ap}
use Rattle.nvme_ctrl.proofs.state.Controller.cq_region.Goals as goal

pub returns-in_err-region-clause-told : goal.returns-in_err-region-clause-told
returns-in_err-region-clause-told c rules late notes pool s =
    ap (λ (o : Option ℕ). is_some o) (c.from_residual.ensures ∙ sym c.in_err-region.was) ∙ c.cq.ensures.told s.content.table s.numbers.tells
    ∙ ap (λ (o : Option ℕ). is_some o) (sym (s.holds.queues.cqs c.args.cqid))

pub returns-clause-told : goal.returns-clause-told
returns-clause-told c rules late notes pool s =
    ap (λ (o : Option ℕ). is_some o) (sym c.in_ok-region.was) ∙ c.cq.ensures.told s.content.table s.numbers.tells ∙ ap (λ (o : Option ℕ). is_some o) (sym (s.holds.queues.cqs c.args.cqid))

pub returns-in_err-region-clause-on_regions : goal.returns-in_err-region-clause-on_regions
returns-in_err-region-clause-on_regions c rules late notes pool s on =
    let none : placing_of c.args.self.now.table ≡ None = sym s.numbers.tells.placing ∙ s.holds.tabled.placing ∙ on in
    c.from_residual.ensures ∙ sym c.in_err-region.was ∙ c.cq.ensures.on_region s.content.table s.numbers.tells none ∙ sym (s.holds.queues.cqs c.args.cqid)

pub returns-clause-on_regions : goal.returns-clause-on_regions
returns-clause-on_regions c rules late notes pool s on =
    let none : placing_of c.args.self.now.table ≡ None = sym s.numbers.tells.placing ∙ s.holds.tabled.placing ∙ on in
    ap (λ (r : ℕ). Some r) (c.region_told.ensures.on_regions none) ∙ sym c.in_ok-region.was ∙ c.cq.ensures.on_region s.content.table s.numbers.tells none ∙ sym (s.holds.queues.cqs c.args.cqid)

pub returns-clause-anywhere : goal.returns-clause-anywhere
returns-clause-anywhere c rules late notes pool s on = c.region_told.ensures.anywhere (is_anywhere rules late notes c.args.self.now pool s on)
