-- The place of an open queue has the number of its class, so what is put there is what `put` puts.
use Rattle.std.proofs.Common.{rules, ◌≡◌, ℕ, ◌+◌, ◌<◌, ◌∙◌, sym, ap, set, subst, refl, nat_lt, arith}
use Rattle.std.specs.Prelude.{IfSome, IsSome, Option, Some, slice_index_or}
use Rattle.nvme_arbiter.specs.Limits.{queue_limit}
use Rattle.nvme_arbiter.specs.Settings.{number_of_class}
use Rattle.nvme_arbiter.specs.Layout.{class_under, closed, slot_in, slots_in}
use Rattle.nvme_arbiter.specs.inside.Masks.{marked_with}
use Rattle.nvme_arbiter.specs.declared.settings.Class.{Class}
use Rattle.nvme_arbiter.specs.declared.queues.QueueFields.{QueueFields}
use Rattle.nvme_arbiter.proofs.MaskLemmas.{class-of-place, number-of, put-slot, slots-written, written}
use Rattle.nvme_arbiter.proofs.queues.QueuesFields.put_count.Goals as goal

pub mark_number-requires-clause-class : goal.mark_number-requires-clause-class
mark_number-requires-clause-class c =
    let b = c.args.self.now in
    let few : c.args.qid < queue_limit = omega (arith, c.requires.seen.qid) in
    subst (λ (k : ℕ). IsSome (class_under c.args.qid (slice_index_or b.places k closed).class)) (sym c.from.ensures)
    (subst (λ (o : Option Class). IsSome o) (sym (class-of-place b c.args.qid c.args.queue.class few c.requires.there)) refl)

pub returns-clause-is_put : goal.returns-clause-is_put
returns-clause-is_put c =
    let b = c.args.self.now in
    let qid = c.args.qid in
    let queue = c.args.queue in
    let number : ℕ = (slice_index_or b.places c.from.result closed).class in
    let f : QueueFields = record { class = number; count = queue.count } in
    let few : qid < queue_limit = omega (arith, c.requires.seen.qid) in
    let under : class_under qid number ≡ Some queue.class =
    subst (λ (k : ℕ). class_under qid (slice_index_or b.places k closed).class ≡ Some queue.class) (sym c.from.ensures) (class-of-place b qid queue.class few c.requires.there) in
    let marked : c.mark_number.new.self ≡ marked_with (record b { places = set b.places c.from-2.result f }) qid queue.class (nat_lt 0 queue.count) =
    subst (λ (o : Option Class). IfSome o (λ (class : Class). c.mark_number.new.self ≡ marked_with (record b { places = set b.places c.from-2.result f }) qid class (nat_lt 0 queue.count))) under c.mark_number.ensures in
    let slot : slot_in (written b qid queue.class f (nat_lt 0 queue.count)) qid f ≡ Some queue =
    subst (λ (m : ℕ). slot_in (written b qid queue.class (record { class = m; count = queue.count }) (nat_lt 0 queue.count)) qid (record { class = m; count = queue.count }) ≡ Some queue)
    (sym (number-of qid number queue.class under))
    (put-slot (record b { places = set b.places qid (record { class = number_of_class queue.class + 1; count = queue.count }) }) qid (number_of_class queue.class) queue.count queue.class (search rules) c.requires.seen refl) in
    ap slots_in (marked ∙ ap (λ (k : ℕ). marked_with (record b { places = set b.places k f }) qid queue.class (nat_lt 0 queue.count)) c.from-2.ensures)
    ∙ slots-written b qid queue.class f (nat_lt 0 queue.count) (Some queue) c.requires.seen.qid (search rules) (search rules) slot
