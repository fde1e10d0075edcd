use Rattle.std.proofs.Common.{◌≡◌, ◌++◌, ◌∷◌, [], sym, ◌∙◌, ap, append_assoc, rules}
use Rattle.std.specs.Vec.Iter.{into_iter_items}
use Rattle.nvme_numbers.proofs.Ranks.{ranked_more}
use Rattle.nvme_numbers.proofs.answer.ranked_queues.Goals as goal

pub loop-queue-preserved : goal.loop-queue-preserved
loop-queue-preserved c =
    let inv = c.loop-queue.invariant in
    let yielded = c.loop-queue.yielded in
    let next : into_iter_items c.loop-queue.queue-iterator ≡ c.in-Some.queue ∷ into_iter_items c.next.new.self = search rules in
    let all : yielded ++ c.in-Some.queue ∷ into_iter_items c.next.new.self ≡ c.args.queues.items = ap (λ xs. yielded ++ xs) (sym next) ∙ inv.2 in (
      tt,
      tt,
      append_assoc yielded (c.in-Some.queue ∷ []) _ ∙ all,
      ranked_more _ _ _ _ _ inv.3 c.ranked_queue.ensures (search rules),
    )
