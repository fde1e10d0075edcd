use Rattle.std.proofs.Common.{◌∙◌, arith}
use Rattle.nvme_lane.proofs.Made.{same_lane, all_made, blank_made, all_parts, none_put}
use Rattle.nvme_lane.proofs.construction.build.Goals as goal

pub returns-clause-all : goal.returns-clause-all
returns-clause-all g c =
    let made = c.in_ok-queue.ensures in
    let pushes = c.in_ok-pushes.ensures in
    let pops = c.in_ok-pops.ensures in
    let capacity = made.0 ∙ c.from.ensures in
    let first = made.1.0 in
    let second = pushes.root.0.0 ∙ first in
    let third = pops.root.0.0 ∙ second in
    all_made _ _ _ _ _ _ _ _ _ (same_lane _ _ c.args.cap _ first capacity) (same_lane _ _ c.args.cap _ second capacity) pushes.passes c.push_reserved.ensures.items pops.passes
    (same_lane _ _ c.args.cap _ third capacity)
    (all_parts _ _ _ _ _ (omega (arith, c.requires.producers, c.requires.consumers)) made.3 pushes.root.1 pops.root.1)

pub returns-clause-blank : goal.returns-clause-blank
returns-clause-blank g c =
    let made = c.in_ok-queue.ensures in
    let pushes = c.in_ok-pushes.ensures in
    let pops = c.in_ok-pops.ensures in
    blank_made _ _ _ _ _ _ _ _ pushes.passes c.push_reserved.ensures.items pops.passes (none_put _ _ _ _ _ made.3 pushes.root.1 pops.root.1)
