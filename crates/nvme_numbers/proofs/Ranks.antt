-- Queues whose latencies are ranked have the same commands.
use Rattle.std.proofs.Common.{◌≡◌, ◌∙◌, ℕ, suc, ◌<◌, Bool, true, false, cond, ◌||◌, List, [], ◌∷◌, ◌++◌, Option, Some, None, length, length-append, get_or, sym, ap, refl, arith}
use Rattle.std.specs.List.{fold}
use Rattle.std.specs.List.Sorted.{IsPermutation}
use Rattle.std.proofs.lemmas.List.Elements.{filter_agree}
use Rattle.std.proofs.lemmas.List.Sorted.{IsPermutation-append, IsPermutation-refl, length_permutation}
use Rattle.nvme_arbiter.specs.declared.settings.Class.{Class}
use Rattle.nvme_latency.specs.Times.{ranked_times, times_of}
use Rattle.nvme_model.specs.declared.queue.Queue.{Queue}
use Rattle.nvme_numbers.specs.Collected.{AreFresh, IsFresh, queues_of}
use Rattle.nvme_numbers.specs.Rows.{IsFedRow, IsRow}
use Rattle.nvme_numbers.specs.Sums.{no_sums, sums_plus}
use Rattle.nvme_numbers.specs.Told.{IsQueueRow, Tells, TellsUnion, all_classes, commands_of, has_queue, is_of, latencies_in, span_of, tallied_sums, tallied_times, totals_in}
use Rattle.nvme_numbers.specs.Feeds.{settled}
use Rattle.nvme_numbers.specs.inside.Unions.{AreClassRows, AreRanked, AreRows, FedAgree, IsRanked, IsRowOf, IsUnionRow, RowsAgree, all_sums, all_times, has_ranked, sums_in, times_in}
use Rattle.nvme_numbers.specs.declared.answer.Coming.{Coming}
use Rattle.nvme_numbers.specs.declared.answer.Member.{Member}
use Rattle.nvme_numbers.specs.declared.answer.RankedQueue.{RankedQueue}
use Rattle.nvme_numbers.specs.declared.numbers.QueueTally.{QueueTally}
use Rattle.nvme_numbers.specs.declared.numbers.Numbers.{Numbers}
use Rattle.nvme_numbers.specs.declared.row.Row.{Row}
use Rattle.nvme_numbers.specs.declared.sums.Sums.{Sums}
use Rattle.nvme_numbers.proofs.Tallies.{paired_more, placed_more, row_any_order}

pub ranked_more : (queues : List QueueTally) (ranked next : List RankedQueue) (q : QueueTally) (r : RankedQueue) → AreRanked queues ranked → IsRanked q r
    → next ≡ ranked ++ r ∷ [] → AreRanked (queues ++ q ∷ []) next
ranked_more queues ranked next q r so here is = rw is (record {
  count = omega (arith, so.count, length-append queues (q ∷ []), length-append ranked (r ∷ []));
  each = paired_more IsRanked queues ranked q r so.count so.each here;
})

-- either both have their commands, or none
either : (b : Bool) (times others : List ℕ) → IsPermutation times others → IsPermutation (cond b times []) (cond b others [])
either true times others same = same
either false times others same = IsPermutation-refl []

one : (class : Option Class) (q : QueueTally) (r : RankedQueue) → IsRanked q r → IsPermutation (tallied_times class q) (times_in class r)
one class q r is = rw is.priority (either (is_of class q.class) (times_of q.tally.latencies) (ranked_times r.tally.latencies) is.times)

one_sums : (class : Option Class) (q : QueueTally) (r : RankedQueue) → IsRanked q r → tallied_sums class q ≡ sums_in class r
one_sums class q r is = rw (is.priority, is.sums) refl

pub rest : (q : QueueTally) (r : RankedQueue) (queues : List QueueTally) (ranked : List RankedQueue) → AreRanked (q ∷ queues) (r ∷ ranked) → AreRanked queues ranked
rest q r queues ranked is = record { count = omega (arith, is.count); each = λ k a b l. is.each (suc k) a b (omega (arith, l)) }

pub same_times : (class : Option Class) (queues : List QueueTally) (ranked : List RankedQueue) → AreRanked queues ranked
    → IsPermutation (latencies_in class queues) (all_times class ranked)
same_times class [] [] is = IsPermutation-refl []
same_times class [] (r ∷ ranked) is = absurd (omega (arith, is.count))
same_times class (q ∷ queues) [] is = absurd (omega (arith, is.count))
same_times class (q ∷ queues) (r ∷ ranked) is =
    let here : IsRanked q r = is.each 0 q r (omega arith) in
    IsPermutation-append (tallied_times class q) (times_in class r) (latencies_in class queues) (all_times class ranked) (one class q r here)
    (same_times class queues ranked (rest q r queues ranked is))

sums_from : (class : Option Class) (s : Sums) (queues : List QueueTally) (ranked : List RankedQueue) → AreRanked queues ranked
    → fold (λ (s : Sums) (q : QueueTally). sums_plus s (tallied_sums class q)) s queues ≡ fold (λ (s : Sums) (r : RankedQueue). sums_plus s (sums_in class r)) s ranked
sums_from class s [] [] is = refl
sums_from class s [] (r ∷ ranked) is = absurd (omega (arith, is.count))
sums_from class s (q ∷ queues) [] is = absurd (omega (arith, is.count))
sums_from class s (q ∷ queues) (r ∷ ranked) is =
    let here : IsRanked q r = is.each 0 q r (omega arith) in
    rw (one_sums class q r here) (sums_from class (sums_plus s (sums_in class r)) queues ranked (rest q r queues ranked is))

pub same_sums : (class : Option Class) (queues : List QueueTally) (ranked : List RankedQueue) → AreRanked queues ranked
    → totals_in class queues ≡ all_sums class ranked
same_sums class queues ranked is = sums_from class no_sums queues ranked is

-- the same classes have a queue
same_classes : (class : Class) (queues : List QueueTally) (ranked : List RankedQueue) → AreRanked queues ranked → has_ranked ranked class ≡ has_queue queues class
same_classes class [] [] is = refl
same_classes class [] (r ∷ ranked) is = absurd (omega (arith, is.count))
same_classes class (q ∷ queues) [] is = absurd (omega (arith, is.count))
same_classes class (q ∷ queues) (r ∷ ranked) is =
    let here : IsRanked q r = is.each 0 q r (omega arith) in
    ap (λ (v : Class). is_of (Some class) v || has_ranked ranked class) here.priority
    ∙ ap (λ (b : Bool). is_of (Some class) q.class || b) (same_classes class queues ranked (rest q r queues ranked is))

-- one row more
pub rows_more : (span whole i : ℕ) (queues : List RankedQueue) (rows next : List Member) (q : RankedQueue) (m : Member) → length rows ≡ i → i < length queues
    → q ≡ get_or queues i q → IsRowOf span whole q m → next ≡ rows ++ m ∷ [] → RowsAgree span whole queues rows → RowsAgree span whole queues next
rows_more span whole i queues rows next q m size there at here is so = rw is (record {
  each = placed_more (IsRowOf span whole) i queues rows q m size there at here so.each;
})

-- and what was done of it
pub fed_more : (c : Coming) (i : ℕ) (queues : List RankedQueue) (rows next : List Member) (q : RankedQueue) (m : Member) → length rows ≡ i → i < length queues
    → q ≡ get_or queues i q → IsFedRow c.time (settled c.count q.feed) m.row.fed → next ≡ rows ++ m ∷ [] → FedAgree c queues rows → FedAgree c queues next
fed_more c i queues rows next q m size there at here is so = rw is (record {
  each = placed_more (λ (r : RankedQueue) (n : Member). IsFedRow c.time (settled c.count r.feed) n.row.fed) i queues rows q m size there at here so.each;
})

-- one queue more
pub fresh_more : (i : ℕ) (queues : List Queue) (tallies next : List QueueTally) (q : Queue) (t : QueueTally) → length tallies ≡ i → i < length queues
    → q ≡ get_or queues i q → IsFresh q t → next ≡ tallies ++ t ∷ [] → AreFresh queues tallies → AreFresh queues next
fresh_more i queues tallies next q t size there at here is so = rw is (record { each = placed_more IsFresh i queues tallies q t size there at here so.each })

-- the same row, where its numbers are the same
same_row : (span others whole all : ℕ) (times : List ℕ) (sums same : Sums) (row : Row) → span ≡ others → whole ≡ all → sums ≡ same
    → IsRow span whole times sums row → IsRow others all times same row
same_row span others whole all times sums same row a b e is = rw (← a, ← b, ← e) is

-- the first of some
pub first_of : {A : Type 0} (xs : List A) → 0 < length xs → A
first_of [] l = absurd (omega (arith, l))
first_of (x ∷ xs) l = x

-- what was told of queues that are ranked is told of those that were collected
union_told : (n : Numbers) (end span whole : ℕ) (ranked : List RankedQueue) (class : Option Class) (row : Row) → span ≡ span_of n end → whole ≡ commands_of n
    → AreRanked (queues_of n) ranked → IsUnionRow span whole class ranked row → TellsUnion n end class row
union_told n end span whole ranked class row a b so is =
    row_any_order (span_of n end) (commands_of n) (latencies_in class (queues_of n)) (all_times class ranked) (totals_in class (queues_of n)) row
    (same_times class (queues_of n) ranked so)
    (same_row span (span_of n end) whole (commands_of n) (all_times class ranked) (all_sums class ranked) (totals_in class (queues_of n)) row a b
    (sym (same_sums class (queues_of n) ranked so)) is)

queue_told : (n : Numbers) (end span whole : ℕ) (q : QueueTally) (r : RankedQueue) (m : Member) → span ≡ span_of n end → whole ≡ commands_of n
    → IsRanked q r → IsRowOf span whole r m → IsQueueRow n end q m
queue_told n end span whole q r m a b is row = (
  row_any_order (span_of n end) (commands_of n) (times_of q.tally.latencies) (ranked_times r.tally.latencies) q.tally.sums m.row is.times
      (same_row span (span_of n end) whole (commands_of n) (ranked_times r.tally.latencies) r.tally.sums q.tally.sums m.row a b is.sums row.0),
  row.1 ∙ is.priority,
)

pub told : (n : Numbers) (end : ℕ) (c : Coming) (span : ℕ) (ranked : List RankedQueue) (rows classes : List Member) (all : Row) → span ≡ span_of n end → AreRanked (queues_of n) ranked
    → IsUnionRow span all.commands None ranked all → AreRows c span all.commands ranked rows → AreClassRows c span all.commands ranked all_classes classes
    → Tells n end rows classes all
told n end c span ranked rows classes all a so together each by_class =
    let whole : all.commands ≡ commands_of n =
    together.commands ∙ length_permutation (latencies_in None (queues_of n)) (all_times None ranked) (same_times None (queues_of n) ranked so) in
    record {
      count = each.count ∙ so.count;
      each = λ k q m l.
          let r : RankedQueue = first_of ranked (omega (arith, l, each.count)) in
          queue_told n end span all.commands (get_or (queues_of n) k q) (get_or ranked k r) (get_or rows k m) a whole
          (so.each k q r (omega (arith, l, each.count))) (each.agree.each k r m l);
      classes_are = by_class.of_each ∙ filter_agree (has_ranked ranked) (has_queue (queues_of n)) (λ class. same_classes class (queues_of n) ranked so) all_classes;
      by_class = λ k m l. union_told n end span all.commands ranked (Some (get_or classes k m).class) (get_or classes k m).row a whole so (by_class.each k m l);
      together = union_told n end span all.commands ranked None all a whole so together;
    }
