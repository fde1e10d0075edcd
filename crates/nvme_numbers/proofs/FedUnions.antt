-- What was done of ranked queues while commands came.
use Rattle.std.proofs.Common.{◌≡◌, ◌∙◌, ℕ, suc, ◌+◌, ◌*◌, ◌<◌, Bool, true, false, cond, List, [], ◌∷◌, ◌++◌, Option, Some, None, length, length-append, get_or, sym, ap, refl, arith, subst}
use Rattle.std.specs.List.{All, fold}
use Rattle.std.proofs.lemmas.List.{append-nil, append_assoc}
use Rattle.std.proofs.lemmas.List.Sums.{sum_by-append}
use Rattle.nvme_arbiter.specs.declared.settings.Class.{Class}
use Rattle.nvme_model.specs.declared.finished.Finished.{Finished}
use Rattle.nvme_numbers.specs.Collected.{IsFedBy, queues_of, warm_up_of}
use Rattle.nvme_numbers.specs.Feeding.{Event, amount_of, amount_plus, came_in, fed_in, fed_time}
use Rattle.nvme_numbers.specs.Told.{is_of}
use Rattle.nvme_numbers.specs.ToldFed.{TellsFed, fed_by}
use Rattle.nvme_numbers.specs.Feeds.{IsFeedOf, nothing, settled}
use Rattle.nvme_numbers.specs.inside.Unions.{AreRanked, FedAgree, IsClassFed, IsUnionFed, all_amounts, amount_in, coming_of}
use Rattle.nvme_numbers.specs.declared.answer.Coming.{Coming}
use Rattle.nvme_numbers.specs.declared.answer.Member.{Member}
use Rattle.nvme_numbers.specs.declared.answer.RankedQueue.{RankedQueue}
use Rattle.nvme_numbers.specs.declared.feed.Amount.{Amount}
use Rattle.nvme_numbers.specs.declared.numbers.Numbers.{Numbers}
use Rattle.nvme_numbers.specs.declared.numbers.QueueTally.{QueueTally}
use Rattle.nvme_numbers.specs.declared.row.Row.{Row}
use Rattle.nvme_numbers.proofs.Feeds.{same}
use Rattle.nvme_numbers.proofs.Ranks.{first_of, rest}

plus_is : (xs ys : List Finished) → amount_plus (amount_of xs) (amount_of ys) ≡ amount_of (xs ++ ys)
plus_is xs ys = same (omega (arith, length-append xs ys)) (omega (arith, sum_by-append (λ (f : Finished). 512 * f.blocks) xs ys))

-- those of a queue, where it is of the class
one_is : (b : Bool) (a : Amount) (fs : List Finished) → a ≡ amount_of fs → cond b a nothing ≡ amount_of (cond b fs [])
one_is true a fs e = e
one_is false a fs e = refl

sums_from : (class : Option Class) (w number : ℕ) (events : List Event) (xs : List Finished) (queues : List QueueTally) (ranked : List RankedQueue) → AreRanked queues ranked
    → ((k : ℕ) (d : QueueTally) → k < length queues → IsFeedOf w (k + number) events (get_or queues k d).feed)
    → fold (λ (s : Amount) (r : RankedQueue). amount_plus s (amount_in class (came_in events) r)) (amount_of xs) ranked ≡ amount_of (xs ++ fed_by w class number queues events)
sums_from class w number events xs [] [] is feeds = ap (λ v. amount_of v) (sym (append-nil xs))
sums_from class w number events xs [] (r ∷ ranked) is feeds = absurd (omega (arith, is.count))
sums_from class w number events xs (q ∷ queues) [] is feeds = absurd (omega (arith, is.count))
sums_from class w number events xs (q ∷ queues) (r ∷ ranked) is feeds =
    let here = is.each 0 q r (omega arith) in
    let zero : 0 + number ≡ number = omega arith in
    let mine_is : IsFeedOf w number events q.feed = subst (λ n. IsFeedOf w n events q.feed) zero (feeds 0 q (omega arith)) in
    let mine : List Finished = cond (is_of class q.class) (fed_in w number events) [] in
    let one : amount_in class (came_in events) r ≡ amount_of mine =
    rw (here.priority, here.feed) (one_is (is_of class q.class) (settled (came_in events) q.feed) (fed_in w number events) mine_is.fed) in
    let next = sums_from class w (number + 1) events (xs ++ mine) queues ranked (rest q r queues ranked is)
    (λ k d l.
    let behind : suc k + number ≡ k + (number + 1) = omega arith in
    subst (λ n. IsFeedOf w n events (get_or queues k d).feed) behind (feeds (suc k) d (omega (arith, l)))) in
    rw (one, plus_is xs mine) (next ∙ ap (λ v. amount_of v) (append_assoc xs mine (fed_by w class (number + 1) queues events)))

pub told_fed : (events : List Event) (n : Numbers) (c : Coming) (ranked : List RankedQueue) (rows classes : List Member) (all : Row) → c ≡ coming_of n.comings → IsFedBy events n
    → AreRanked (queues_of n) ranked → IsUnionFed c None ranked all → length rows ≡ length ranked → FedAgree c ranked rows → All (IsClassFed c ranked) classes
    → TellsFed events n rows classes all
told_fed events n c ranked rows classes all coming is so together count each by_class =
    let w = warm_up_of n in
    let time : c.time ≡ fed_time w events = rw (coming, is.comings.last, is.comings.first) refl in
    let came : c.count ≡ came_in events = rw coming is.comings.count in
    let union : (class : Option Class) → all_amounts class c.count ranked ≡ amount_of (fed_by w class 1 (queues_of n) events) =
    λ class. rw came (sums_from class w 1 events [] (queues_of n) ranked so is.each) in
    record {
      each = λ k m l.
          let r : RankedQueue = first_of ranked (omega (arith, l, count)) in
          let q : QueueTally = first_of (queues_of n) (omega (arith, l, count, so.count)) in
          let there : k < length (queues_of n) = omega (arith, l, count, so.count) in
          let feed = (so.each k q r (omega (arith, l, count))).feed in
          let done : settled c.count (get_or ranked k r).feed ≡ amount_of (fed_in w (k + 1) events) = rw (feed, came) (is.each k q there).fed in
          rw (← time, ← done) (each.each k r m l);
      by_class = λ k m l. rw (← time, ← union (Some (get_or classes k m).class)) (by_class k m l);
      together = rw (← time, ← union None) together;
    }
