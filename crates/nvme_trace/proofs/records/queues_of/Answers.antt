use Rattle.std.proofs.Common.{◌≡◌, ◌+◌, ◌∷◌, [], List, Some, None, length, drop, sym, ap, subst, ◌∙◌, arith, rules}
use Rattle.std.proofs.lemmas.List.{length-append}
use Rattle.serde_json.specs.Find.{as_array}
use Rattle.serde_json.specs.View.{view, items_view}
use Rattle.nvme_arbiter.specs.declared.pick.Seen.{Seen}
use Rattle.nvme_trace.specs.Format.{queues_from}
use Rattle.nvme_trace.proofs.ReadingLemmas.{queue_more, queue_fails, queues_done, queues_whole}
use Rattle.nvme_trace.proofs.records.queues_of.Goals as goal

pub returns-in_err-queue_of : goal.returns-in_err-queue_of
returns-in_err-queue_of c =
    let items = c.deref-item-items.result.now in
    let is : Some (items_view items) ≡ as_array (view c.args.value.now) = rw c.deref-item-items.ensures.value c.in_ok-items.ensures in
    let fails = queue_fails items c.loop-item.item-index c.item-item.result c.loop-item.seen.items c.loop-item-test.true c.item-item.is c.in_err-queue_of.ensures in
    let none : c.from_residual-in_err-queue_of.result ≡ None = search rules in
    rw none (fails ∙ c.loop-item.invariant.turns ∙ queues_whole (view c.args.value.now) items is (omega arith))

pub loop-item-preserved : goal.loop-item-preserved
loop-item-preserved c =
    let items = c.deref-item-items.result.now in
    let queue = c.in_ok-queue_of.field-0 in
    record {
      count = omega (arith, ap length c.push.ensures.items, length-append c.loop-item.seen.items (queue ∷ []), c.loop-item.invariant.count);
      turns = subst (λ (l : List Seen). queues_from l (items_view (drop (c.loop-item.item-index + 1) items)) ≡ queues_from [] (items_view items)) (sym c.push.ensures.items)
          (queue_more items c.loop-item.item-index c.item-item.result c.loop-item.seen.items queue c.loop-item-test.true c.item-item.is c.in_ok-queue_of.ensures ∙ c.loop-item.invariant.turns);
    }

pub returns : goal.returns
returns c =
    let items = c.deref-item-items.result.now in
    let is : Some (items_view items) ≡ as_array (view c.args.value.now) = rw c.deref-item-items.ensures.value c.in_ok-items.ensures in
    queues_done items c.loop-item.item-index c.loop-item.seen.items c.loop-item-test.false ∙ c.loop-item.invariant.turns ∙ queues_whole (view c.args.value.now) items is (omega arith)
