use Rattle.std.proofs.Common.{rules, [], ◌∷◌, ◌∙◌}
use Rattle.nvme_admin.specs.History.{Start, TableHistory, RegionAdded, Submission}
use Rattle.nvme_ctrl.proofs.NewCall.{sq_refused, cq_fault}
use Rattle.nvme_ctrl.proofs.making.first_table.Goals as goal

pub returns-clause-tells : goal.returns-clause-tells
returns-clause-tells c =
    let start : Start = record { nsq = c.args.limits.nsq; ncq = c.args.limits.ncq; settings = c.args.settings } in
    let first : TableHistory = RegionAdded Submission c.args.sq.address c.args.sq.slots ∷ [] in
    c.in_ok-add_cq_region.ensures.stands start first (c.in_ok-add_sq_region.ensures.stands start [] c.on_regions-table.ensures.tells)

pub returns-clause-made : goal.returns-clause-made
returns-clause-made c =
    let start : Start = record { nsq = c.args.limits.nsq; ncq = c.args.limits.ncq; settings = c.args.settings } in
    let t = c.in_ok-add_sq_region.ensures in
    let table = c.on_regions-table in
    cq_fault table.result c.add_sq_region.new.self start c.args.sq c.args.cq table.ensures.placing table.ensures.tells t.added t.regions t.rest
    ∙ c.in_ok-add_cq_region.ensures.added

pub returns-in_err-add_sq_region-clause-refused : goal.returns-in_err-add_sq_region-clause-refused
returns-in_err-add_sq_region-clause-refused c =
    let start : Start = record { nsq = c.args.limits.nsq; ncq = c.args.limits.ncq; settings = c.args.settings } in
    let table = c.on_regions-table in
    let fault = sq_refused table.result table.result start c.args.sq c.args.cq table.ensures.placing table.ensures.tells c.in_err-add_sq_region.field-0.0
    (c.in_err-add_sq_region.ensures.refused table.ensures.placing) in
    search (rules, fault)

pub returns-in_err-add_cq_region-clause-refused : goal.returns-in_err-add_cq_region-clause-refused
returns-in_err-add_cq_region-clause-refused c =
    let start : Start = record { nsq = c.args.limits.nsq; ncq = c.args.limits.ncq; settings = c.args.settings } in
    let t = c.in_ok-add_sq_region.ensures in
    let table = c.on_regions-table in
    let fault = cq_fault table.result c.add_sq_region.new.self start c.args.sq c.args.cq table.ensures.placing table.ensures.tells t.added t.regions t.rest
    ∙ c.in_err-add_cq_region.ensures.refused (t.placing ∙ table.ensures.placing) in
    search (rules, fault)
