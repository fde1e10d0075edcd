use Rattle.std.proofs.Common.{sym, ◌∙◌, arith, rules}
use Rattle.nvme_lane.specs.View.{GetView}
use Rattle.nvme_lane.specs.Feeder.{put_of}
use Rattle.nvme_lane.specs.declared.feeder.Feeder.{Feeder}
use Rattle.nvme_entry.specs.declared.submission.Sqe.{Sqe}
use Rattle.nvme_front.proofs.Hosted.{seen_same, seen_differs}
use Rattle.nvme_front.proofs.settlement.are_feeders.Goals as goal

pub returns-then-address-sq_address : goal.returns-then-address-sq_address
returns-then-address-sq_address c =
    let i = c.loop-r.invariant in
    let n = i.feeders in (
      λ t. search rules,
      λ e. absurd (seen_differs (λ (f : Feeder Sqe). (put_of f).address) (λ (g : GetView Sqe). g.address) c.args.feeders.now c.args.front.now.gets c.loop-r.r c.index-feeders-from.result c.address.result c.sq_address.result
          (omega arith) (rw c.from-in-loop-r.ensures at c.index-feeders-from.is) c.address.ensures c.sq_address.ensures c.if-address-sq_address.true e),
    )

pub returns : goal.returns
returns c =
    let i = c.loop-r.invariant in
    let n = i.feeders in
    (λ t. seen_same (λ (f : Feeder Sqe). (put_of f).address) (λ (g : GetView Sqe). g.address) c.args.feeders.now c.args.front.now.gets (i.feeders ∙ sym i.gets) (λ k f g l. i.same k f g (omega arith)), λ e. search rules)
