-- What is kept of the time in which commands come, behind one event more.
use Rattle.std.proofs.Common.{◌≡◌, ◌∙◌, ℕ, ◌+◌, ◌*◌, ◌<◌, true, false, List, [], ◌∷◌, None, length, get_or, sym, ap, refl, arith, inl, inr}
use Rattle.std.specs.Prelude.{◌==◌, nat_le, nat_lt}
use Rattle.std.specs.List.{sum_by}
use Rattle.std.proofs.lemmas.List.Sums.{sum_by-append}
use Rattle.std.proofs.lemmas.Bool.{cases_Bool, cases_eq, cond-false, eq-eqb, ltb-true, ne_eqb}
use Rattle.nvme_model.specs.declared.finished.Finished.{Finished}
use Rattle.nvme_model.specs.declared.queue.Queue.{Queue}
use Rattle.nvme_numbers.specs.Collected.{AreFresh, IsFedBy, Keeps, queues_of, warm_up_of}
use Rattle.nvme_numbers.specs.Feeding.{Comes, Ends, Event, amount_of, amount_plus, amount_with, came_in, counts_of, done_in, fed_in, first_in, is_behind, last_in}
use Rattle.nvme_numbers.specs.Feeds.{IsComingsOf, IsFed, IsFeedOf, fed_with, feed_with, loose, nothing, settled, with_coming}
use Rattle.nvme_numbers.specs.declared.feed.Amount.{Amount}
use Rattle.nvme_numbers.specs.declared.feed.Comings.{Comings}
use Rattle.nvme_numbers.specs.declared.feed.Feed.{Feed}
use Rattle.nvme_numbers.specs.declared.numbers.Numbers.{Numbers}
use Rattle.nvme_numbers.proofs.Ranks.{first_of}

abbrev amount : ℕ → ℕ → Amount
amount a b = record { commands = a; bytes = b }

pub same : {a b c d : ℕ} → a ≡ c → b ≡ d → amount a b ≡ amount c d
same x y = rw (x, y) refl

with_is : (fs : List Finished) (x : Finished) → amount_with (amount_of fs) x ≡ amount_of (x ∷ fs)
with_is fs x =
    let bytes : Finished → ℕ = λ f. 512 * f.blocks in
    let more : sum_by bytes (x ∷ fs) ≡ 0 + 512 * x.blocks + sum_by bytes fs = sum_by-append bytes (x ∷ []) fs in
    same (omega arith) (omega (arith, more))

plus_with : (a b : Amount) (x : Finished) → amount_plus (amount_with a x) b ≡ amount_with (amount_plus a b) x
plus_with a b x = same (omega arith) (omega arith)

with_plus : (a b : Amount) (x : Finished) → amount_plus a (amount_with b x) ≡ amount_with (amount_plus a b) x
with_plus a b x = same (omega arith) (omega arith)

plus_nothing : (a b : Amount) → amount_plus (amount_plus a b) nothing ≡ amount_plus a b
plus_nothing a b = same (omega arith) (omega arith)

-- what is settled and what isn't are all
both : (count : ℕ) (f : Feed) → amount_plus (settled count f) (loose count f) ≡ amount_plus f.fed f.since
both count f = elim (cases_Bool (f.count == count)) [
  | inl e ↦ rw e refl
  | inr e ↦ rw e (plus_nothing f.fed f.since)
]

comes_comings : (w count at : ℕ) (events : List Event) (c : Comings) → IsComingsOf w events c → IsComingsOf w (Comes count at ∷ events) (with_coming w count at c)
unfolding came_in last_in first_in
comes_comings w count at events c is = rw (is.count, is.last, is.first) (record { count = refl; last = refl; first = refl })

ends_comings : (w : ℕ) (x : Finished) (events : List Event) (c : Comings) → IsComingsOf w events c → IsComingsOf w (Ends x ∷ events) c
unfolding came_in last_in first_in
ends_comings w x events c is = record { count = is.count; last = is.last; first = is.first }

comes_feed : (w q count at : ℕ) (events : List Event) (f : Feed) → IsFeedOf w q events f → IsFeedOf w q (Comes count at ∷ events) f
unfolding came_in done_in fed_in
comes_feed w q count at events f is = elim (cases_Bool (nat_lt (came_in events) count)) [
  | inl more ↦
      let l : came_in events < count = ltb-true (came_in events) count more in
      let fresh : (f.count == count) ≡ false = ne_eqb f.count count (λ e. omega (arith, is.count, l, e)) in
      record {
        all = is.all;
        count = rw more (omega (arith, is.count, l));
        fed = rw more (cond-false (f.count == count) f.fed (amount_plus f.fed f.since) fresh ∙ is.all);
      }
  | inr none ↦ record { all = is.all; count = rw none is.count; fed = rw none is.fed }
]

other_feed : (w q : ℕ) (x : Finished) (events : List Event) (f : Feed) → ¬ (q ≡ x.queue) → IsFeedOf w q events f → IsFeedOf w q (Ends x ∷ events) f
unfolding came_in done_in fed_in
other_feed w q x events f other is =
    let e : (x.queue == q) ≡ false = ne_eqb x.queue q (λ s. other (sym s)) in
    record { all = rw e is.all; count = is.count; fed = rw e is.fed }

-- one that is behind the beginning
behind_feed : (w q : ℕ) (x : Finished) (events : List Event) (f : Feed) → counts_of w q events x ≡ true → IsFeedOf w q events f
    → IsFeedOf w q (Ends x ∷ events) (feed_with (came_in events) (last_in events) x f)
unfolding came_in done_in fed_in
behind_feed w q x events f counts is =
    let n = came_in events in
    let itself : (n == n) ≡ true = eq-eqb n n refl in
    let all : amount_with (amount_plus (settled n f) (loose n f)) x ≡ amount_of (x ∷ done_in w q events) =
    ap (λ a. amount_with a x) (both n f ∙ is.all) ∙ with_is (done_in w q events) x in
    let fed : amount_with (settled n f) x ≡ amount_of (x ∷ fed_in w q events) = ap (λ a. amount_with a x) is.fed ∙ with_is (fed_in w q events) x in
    elim (cases_Bool (nat_le x.times.done (last_in events))) [
      | inl e ↦ record { all = rw (counts, e) (plus_with (settled n f) (loose n f) x ∙ all); count = rw e (omega arith); fed = rw (counts, e, itself) fed }
      | inr e ↦ record { all = rw (counts, e) (with_plus (settled n f) (loose n f) x ∙ all); count = rw e (omega arith); fed = rw (counts, e, itself) is.fed }
    ]

before_feed : (w q : ℕ) (x : Finished) (events : List Event) (f : Feed) → counts_of w q events x ≡ false → IsFeedOf w q events f → IsFeedOf w q (Ends x ∷ events) f
unfolding came_in done_in fed_in
before_feed w q x events f e is = record { all = rw e is.all; count = is.count; fed = rw e is.fed }

own_feed : (w q : ℕ) (x : Finished) (events : List Event) (c : Comings) (f : Feed) → q ≡ x.queue → IsComingsOf w events c → IsFeedOf w q events f
    → IsFeedOf w q (Ends x ∷ events) (fed_with c x f)
own_feed w q x events c f own came is =
    let e : (x.queue == q) ≡ true = eq-eqb x.queue q (sym own) in
    elim (cases_Bool (is_behind (first_in w events) x)) [
      | inl behind ↦ rw (came.first, came.count, came.last, behind) (behind_feed w q x events f (rw (e, behind) refl) is)
      | inr before ↦ rw (came.first, before) (before_feed w q x events f (rw (e, before) refl) is)
    ]

-- no event yet
abbrev pub no_comings : Comings
no_comings = record { count = 0; last = 0; first = None }

pub none_fed : (queues : List Queue) (n : Numbers) → n.comings ≡ no_comings → length (queues_of n) ≡ length queues → AreFresh queues (queues_of n) → IsFedBy [] n
unfolding came_in last_in first_in done_in fed_in
none_fed queues n none count fresh = record {
  comings = rw none (record { count = refl; last = refl; first = refl });
  each = λ k d l.
      let feed = (fresh.each k (first_of queues (omega (arith, l, count))) d l).feed in
      rw feed (record { all = refl; count = omega arith; fed = refl });
}

pub came : (count at : ℕ) (n : Numbers) (events : List Event) → IsFedBy events n
    → IsFedBy (Comes count at ∷ events) (record n { comings = with_coming (warm_up_of n) count at n.comings })
came count at n events is = record {
  comings = comes_comings (warm_up_of n) count at events n.comings is.comings;
  each = λ k d l. comes_feed (warm_up_of n) (k + 1) count at events (get_or (queues_of n) k d).feed (is.each k d l);
}

pub ended : (x : Finished) (old new : Numbers) (events : List Event) → IsFed x old new → Keeps old new → IsFedBy events old → IsFedBy (Ends x ∷ events) new
ended x old new events fed keeps is = record {
  comings = rw (keeps.says, fed.comings) (ends_comings (warm_up_of old) x events old.comings is.comings);
  each = λ k d l.
      let there : k < length (queues_of old) = omega (arith, l, keeps.count) in
      let feed = (get_or (queues_of old) k d).feed in
      elim (cases_eq (k + 1) x.queue) [
        | inl own ↦ rw (keeps.says, fed.own k d own there) (own_feed (warm_up_of old) (k + 1) x events old.comings feed own is.comings (is.each k d there))
        | inr other ↦ rw (keeps.says, fed.others k d other) (other_feed (warm_up_of old) (k + 1) x events feed other (is.each k d there))
      ];
}
