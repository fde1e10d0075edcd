use Rattle.std.proofs.Common.{◌<◌, ◌∙◌, length, subst, arith, rules}
use Rattle.nvme_admin.specs.declared.bounds.TheConstants.{MAX_REGIONS}
use Rattle.nvme_front.specs.Adding.{IsAdded, submissions}
use Rattle.nvme_front.specs.View.{FrontView}
use Rattle.nvme_front.specs.declared.state.FrontState.{FrontState}
use Rattle.nvme_front.specs.inside.State.{view_of}
use Rattle.nvme_front.proofs.AddedRegions.{is_added-sq, same_sqs}
use Rattle.nvme_front.proofs.state.FrontState.add_sq.Goals as goal

pub returns-clause-added : goal.returns-clause-added
returns-clause-added c =
    let made : FrontState = c.make_room.new.self in
    let t : FrontState = c.push_sq.new.self in
    let s : FrontState = c.args.self.now in
    let few : length made.sqs.items < MAX_REGIONS =
    omega (arith, same_sqs s made c.make_room.ensures.view, c.len.ensures, s.sqs.ok.0, c.if-len-eq-MAX_REGIONS.false, c.requires.consistent.roomy.few_sqs) in
    subst (λ (v : FrontView). IsAdded submissions c.args.end c.len-number.result v (view_of t)) c.make_room.ensures.view
    (is_added-sq made t (record { end = c.args.end; fetched = 0 }) c.len-number.result c.push_sq.ensures.more (search rules) few (c.len-number.ensures ∙ made.sqs.ok.0))
