use Rattle.std.proofs.Common.{◌≡◌, ◌∙◌, ℕ, ap, refl, rules}
use Rattle.nvme_arbiter.specs.ByClass.{of_class}
use Rattle.nvme_arbiter.specs.declared.by_class.ByClass.{ByClass}
use Rattle.nvme_bounds.specs.Before.{most_before}
use Rattle.nvme_model.specs.declared.model.Model.{Model}
use Rattle.nvme_model.specs.declared.queue.Queue.{Queue}
use Rattle.nvme_waits.specs.declared.bounds.Bound.{Bound}
use Rattle.nvme_waits.specs.Bounds.{bound_of, counts_in, time_of}
use Rattle.nvme_waits.specs.Longest.{longest_of}
use Rattle.nvme_waits.proofs.Greatest.{values_more}
use Rattle.nvme_waits.proofs.bounds.Bounds.of.Goals as goal

-- the bound by what was counted before
abbrev by_counts : Model → Queue → (counts : ByClass ℕ) → (service : ℕ) → Bound
by_counts m q counts service =
    let before = most_before m.mechanism m.settings (of_class counts) 1 q.class in
    record { class = q.class; before = before; time = time_of m.device before service }

same_bound : (m : Model) (q : Queue) (counts : ByClass ℕ) (service : ℕ) → counts ≡ counts_in m.queues.items → service ≡ longest_of m.queues.items
    → by_counts m q counts service ≡ bound_of m q
same_bound m q counts service a b = rw (a, b) refl

pub loop-queue-preserved : goal.loop-queue-preserved
loop-queue-preserved c =
    let m = c.args.model.now in
    let q = c.queue-item.result in
    let counts : c.counts_in.result ≡ counts_in m.queues.items = c.counts_in.ensures ∙ ap counts_in c.deref.ensures.value in
    let service : c.longest_of_all-service.result ≡ longest_of m.queues.items = c.longest_of_all-service.ensures ∙ ap longest_of c.deref-2.ensures.value in
    values_more (bound_of m) c.deref-queue-items.result.now c.loop-queue.queues.items _ c.loop-queue.queue-index q c.bound_of.result
    c.loop-queue-test.true c.queue-item.is c.loop-queue.invariant (c.bound_of.ensures ∙ same_bound m q c.counts_in.result c.longest_of_all-service.result counts service)
    (search rules)
