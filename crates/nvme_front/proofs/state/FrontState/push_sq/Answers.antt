use Rattle.std.proofs.Common.{ℕ, true, [], ap, ◌∙◌}
use Rattle.nvme_admin.specs.History.{Submission}
use Rattle.nvme_front.specs.declared.state.FrontState.{FrontState}
use Rattle.nvme_front.specs.View.{is_address}
use Rattle.nvme_front.specs.inside.State.{rules_of, view_of}
use Rattle.nvme_front.proofs.Addresses.{sq_not_refused}
use Rattle.nvme_front.proofs.AddedRegions.{fresh_with_sq, roomy_with_sq, consistent_with_sq, told_of}
use Rattle.nvme_front.proofs.state.FrontState.push_sq.Goals as goal

pub begin-requires-clause-roomy : goal.begin-requires-clause-roomy
begin-requires-clause-roomy c =
    roomy_with_sq c.args.self.now c.append_sq.new.self c.args.sq c.append_sq.ensures.more c.requires.consistent.roomy c.requires.room.jobs c.requires.few c.requires.not_used

pub begin-requires-clause-fresh : goal.begin-requires-clause-fresh
begin-requires-clause-fresh c =
    fresh_with_sq c.args.self.now c.append_sq.new.self c.args.sq c.append_sq.ensures.more
    (c.requires.consistent.fresh (λ admin. let is = c.has_admin.ensures.1 admin in cc (is, c.if-not-has_admin.true))) c.requires.fresh c.append_sq.ensures.engine c.requires.room.pool

pub unreachable-requires : goal.unreachable-requires
unreachable-requires c =
    let s : FrontState = c.args.self.now in
    let k = c.requires.consistent.running (c.has_admin.ensures.0 c.if-not-has_admin.false) in
    let none = sq_not_refused s c.address.result c.slots.result (ap (λ (a : ℕ). is_address (view_of s) a) c.address.ensures ∙ c.requires.not_used) c.slots.ensures.least c.slots.ensures.most c.requires.few in
    let some = c.in_default.ensures.refused (rules_of s) s.late k.notes k.stands in
    cc (none, some)

pub returns-clause-consistent : goal.returns-clause-consistent
returns-clause-consistent c =
    let s : FrontState = c.args.self.now in
    let t : FrontState = c.append_sq-2.new.self in
    let m = c.append_sq-2.ensures.more in
    let admin = c.has_admin.ensures.0 c.if-not-has_admin.false in
    let told = told_of Submission c.address.result c.args.sq.end.address c.slots.result c.args.sq.end.slots c.address.ensures c.slots.ensures.value
    c.add_sq.new.self t.engine c.append_sq-2.ensures.engine in
    consistent_with_sq s t c.args.sq
    (record { config = m.config; sqs = m.sqs; cqs = m.cqs; jobs = m.jobs; log = m.log; late = m.late })
    (c.requires.consistent.running admin) c.requires.consistent.roomy c.requires.fresh
    (λ rules late before. told rules late [] (c.in-Ok.ensures.in_time rules late before))
    (λ rules late notes before. told rules true notes (c.in-Ok.ensures.late rules late notes before))
    admin c.requires.room.jobs c.requires.few c.requires.not_used
