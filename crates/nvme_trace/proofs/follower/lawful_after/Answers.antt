use Rattle.std.proofs.Common.{ap, ◌∙◌}
use Rattle.nvme_arbiter.specs.Standing.{pick_of}
use Rattle.nvme_arbiter.specs.declared.kept.Kept.{Kept}
use Rattle.nvme_trace.proofs.FollowLemmas.{follows_pick}
use Rattle.nvme_trace.proofs.follower.lawful_after.Goals as goal

pub returns : goal.returns
returns c = λ m first past h.
    let kept = c.args.kept.now in
    c.peek.ensures.by_what_is_kept ∙ (ap (λ (k : Kept). pick_of k c.args.seen.now) c.from_parts.ensures ∙ follows_pick m first past kept c.args.seen.now c.greatest_weight.ensures h)
