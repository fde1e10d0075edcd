use Rattle.std.proofs.Common.{◌≡◌, ℕ, List, length, Some, sym, ap, ◌∙◌}
use Rattle.nvme_admin.specs.History.{Completion}
use Rattle.nvme_admin.specs.declared.region.AdminError.{AdminError}
use Rattle.nvme_admin.specs.declared.region.Region.{Region}
use Rattle.nvme_log.specs.Rules.{cq_regions_of}
use Rattle.nvme_ctrl_log.specs.Making.{adding_fault}
use Rattle.nvme_ctrl.specs.declared.state.Controller.{Controller}
use Rattle.nvme_engine.specs.declared.engine.Engine.{Engine}
use Rattle.nvme_engine.proofs.AddedRegions.{fits, their_fault, stands_late, stands_in_time, on_ok, on_ok_also, on_err_also, if_ok_also, if_err_also}
use Rattle.nvme_engine.proofs.engine.Engine.add_cq.Goals as goal

pub returns-clause-unchanged : goal.returns-clause-unchanged
returns-clause-unchanged c =
    let self : Engine = c.args.self.now in
    on_err_also c.add_cq_region.result c.add_cq_region.ensures.unchanged (λ same. ap (λ (k : Controller). record self { controller = k }) same)

pub returns-clause-refused : goal.returns-clause-refused
returns-clause-refused c rules late notes s =
    if_err_also c.add_cq_region.result (λ (e : AdminError). adding_fault Completion c.args.address c.args.slots s.their ≡ Some e) (λ (e : AdminError). adding_fault Completion c.args.address c.args.slots rules ≡ Some e)
    (c.add_cq_region.ensures.refused s.their s.their_late notes c.args.self.now.slots.items s.stands)
    (λ e is. sym (their_fault Completion c.args.address c.args.slots rules late notes c.args.self.now s) ∙ is)

pub returns-clause-added : goal.returns-clause-added
returns-clause-added c rules late notes s =
    on_ok_also c.add_cq_region.result (c.add_cq_region.ensures.added s.their s.their_late notes c.args.self.now.slots.items s.stands)
    (λ none. sym (their_fault Completion c.args.address c.args.slots rules late notes c.args.self.now s) ∙ none)

pub returns-clause-number : goal.returns-clause-number
returns-clause-number c rules late notes s =
    if_ok_also c.add_cq_region.result (λ (r : ℕ). r ≡ length (cq_regions_of s.their)) (λ (r : ℕ). r ≡ length (cq_regions_of rules))
    (c.add_cq_region.ensures.number s.their s.their_late notes c.args.self.now.slots.items s.stands) (λ r is. is ∙ ap (λ (rs : List Region). length rs) s.alike.cqs)

pub returns-clause-in_time : goal.returns-clause-in_time
returns-clause-in_time c rules late s =
    let self : Engine = c.args.self.now in
    let a = c.add_cq_region in
    on_ok a.result (a.ensures.added s.their s.their_late _ self.slots.items s.stands) (a.ensures.stands s.their s.their_late _ self.slots.items s.stands)
    (λ none stands. stands_in_time Completion c.args.address c.args.slots rules late self s a.new.self
    (fits Completion c.args.address c.args.slots rules (sym (their_fault Completion c.args.address c.args.slots rules late _ self s) ∙ none)) stands a.ensures.depths a.ensures.own)

pub returns-clause-late : goal.returns-clause-late
returns-clause-late c rules late notes s =
    let self : Engine = c.args.self.now in
    let a = c.add_cq_region in
    on_ok a.result (a.ensures.added s.their s.their_late notes self.slots.items s.stands) (a.ensures.stands s.their s.their_late notes self.slots.items s.stands)
    (λ none stands. stands_late Completion c.args.address c.args.slots rules late notes self s a.new.self
    (fits Completion c.args.address c.args.slots rules (sym (their_fault Completion c.args.address c.args.slots rules late notes self s) ∙ none)) stands a.ensures.depths a.ensures.own)
