use Rattle.std.proofs.Common.{ℕ, true, [], ap, ◌∙◌}
use Rattle.nvme_admin.specs.History.{Completion}
use Rattle.nvme_front.specs.declared.state.FrontState.{FrontState}
use Rattle.nvme_front.specs.View.{is_address}
use Rattle.nvme_front.specs.inside.State.{rules_of, view_of}
use Rattle.nvme_front.proofs.Addresses.{cq_not_refused}
use Rattle.nvme_front.proofs.AddedRegions.{fresh_with_cq, roomy_with_cq, consistent_with_cq, told_of}
use Rattle.nvme_front.proofs.state.FrontState.push_cq.Goals as goal

pub begin-requires-clause-roomy : goal.begin-requires-clause-roomy
begin-requires-clause-roomy c =
    roomy_with_cq c.args.self.now c.append_cq.new.self c.args.end c.append_cq.ensures.more c.requires.consistent.roomy c.requires.few c.requires.not_used

pub begin-requires-clause-fresh : goal.begin-requires-clause-fresh
begin-requires-clause-fresh c =
    fresh_with_cq c.args.self.now c.append_cq.new.self c.args.end c.append_cq.ensures.more
    (c.requires.consistent.fresh (λ admin. let is = c.has_admin.ensures.1 admin in cc (is, c.if-not-has_admin.true))) c.requires.nothing_sent c.append_cq.ensures.engine

pub unreachable-requires : goal.unreachable-requires
unreachable-requires c =
    let s : FrontState = c.args.self.now in
    let k = c.requires.consistent.running (c.has_admin.ensures.0 c.if-not-has_admin.false) in
    let none = cq_not_refused s c.address.result c.slots.result (ap (λ (a : ℕ). is_address (view_of s) a) c.address.ensures ∙ c.requires.not_used) c.slots.ensures.least c.slots.ensures.most c.requires.few in
    let some = c.in_default.ensures.refused (rules_of s) s.late k.notes k.stands in
    cc (none, some)

pub returns-clause-consistent : goal.returns-clause-consistent
returns-clause-consistent c =
    let s : FrontState = c.args.self.now in
    let t : FrontState = c.append_cq-2.new.self in
    let m = c.append_cq-2.ensures.more in
    let admin = c.has_admin.ensures.0 c.if-not-has_admin.false in
    let told = told_of Completion c.address.result c.args.end.address c.slots.result c.args.end.slots c.address.ensures c.slots.ensures.value
    c.add_cq.new.self t.engine c.append_cq-2.ensures.engine in
    consistent_with_cq s t c.args.end
    (record { config = m.config; sqs = m.sqs; cqs = m.cqs; jobs = m.jobs; log = m.log; late = m.late })
    (c.requires.consistent.running admin) c.requires.consistent.roomy c.requires.nothing_sent
    (λ rules late before. told rules late [] (c.in-Ok.ensures.in_time rules late before))
    (λ rules late notes before. told rules true notes (c.in-Ok.ensures.late rules late notes before))
    admin c.requires.few c.requires.not_used
