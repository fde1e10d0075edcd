use Rattle.std.proofs.Common.{sym, ◌∙◌, arith, rules}
use Rattle.nvme_lane.specs.View.{PutView}
use Rattle.nvme_lane.specs.Drainer.{get_of}
use Rattle.nvme_lane.specs.declared.drainer.Drainer.{Drainer}
use Rattle.nvme_entry.specs.declared.completion.Cqe.{Cqe}
use Rattle.nvme_front.proofs.Hosted.{seen_same, seen_differs}
use Rattle.nvme_front.proofs.settlement.are_drainers.Goals as goal

pub returns-then-address-cq_address : goal.returns-then-address-cq_address
returns-then-address-cq_address c =
    let i = c.loop-c.invariant in
    let n = i.drainers in (
      λ t. search rules,
      λ e. absurd (seen_differs (λ (d : Drainer Cqe). (get_of d).address) (λ (p : PutView Cqe). p.address) c.args.drainers.now c.args.front.now.puts c.loop-c.c c.index-drainers-from.result c.address.result c.cq_address.result
          (omega arith) (rw c.from-in-loop-c.ensures at c.index-drainers-from.is) c.address.ensures c.cq_address.ensures c.if-address-cq_address.true e),
    )

pub returns : goal.returns
returns c =
    let i = c.loop-c.invariant in
    let n = i.drainers in
    (λ t. seen_same (λ (d : Drainer Cqe). (get_of d).address) (λ (p : PutView Cqe). p.address) c.args.drainers.now c.args.front.now.puts (i.drainers ∙ sym i.puts) (λ k d p l. i.same k d p (omega arith)), λ e. search rules)
