-- That each answered I/O command has its ticket, and that its result was gained.
use Rattle.std.proofs.Common.{◌≡◌, ℕ, zero, suc, ◌<◌, ◌≤◌, Bool, true, false, not, nat_lt, if◌then◌else◌, ◌==◌, ◌&&◌, ◌||◌, List, [], ◌∷◌, ◌++◌, length, map, refl, sym, ap, subst, ◌∙◌, arith, sum_by, slice_index_or}
use Rattle.std.specs.Prelude.{slice_get}
use Rattle.std.specs.List.{All, list_any}
use Rattle.std.proofs.lemmas.Bool.{eq-eqb, ne_eqb, ltb-true, and_parts}
use Rattle.std.proofs.lemmas.List.{map-append}
use Rattle.std.proofs.lemmas.List.Elements.{All-head, All-tail}
use Rattle.std.proofs.lemmas.List.Sums.{sum_by-cons, sum_by-append, sum_by-le-sum_by, get_or-le-sum_by}
use Rattle.std.proofs.lemmas.Option.{same_Some, slice_get_within, get_or_from_slice_get}
use Rattle.nvme_pool.specs.Jobs.{result_of}
use Rattle.nvme_pool.specs.declared.jobs.Job.{Job}
use Rattle.nvme_pool.proofs.Retiring.{sum_by_map}
use Rattle.nvme_log.specs.Rules.{Past}
use Rattle.nvme_log.specs.Places.{fetched, fate_of, is_waiting, is_picked, one_if}
use Rattle.nvme_log.specs.declared.place.Place.{Place}
use Rattle.nvme_log.specs.Dispatches.{dispatched, place_at}
use Rattle.nvme_jobs.specs.Executions.{IsJobOf}
use Rattle.nvme_jobs.proofs.Tickets.{job_there}
use Rattle.nvme_log.proofs.Waiting.{one_fate_of}
use Rattle.nvme_jobs.specs.Answers.{IsAnsweredIo, HasTicket, AnswersHaveTickets, AnswersHaveResults}
use Rattle.nvme_jobs.specs.Hands.{Hands, in_hand, is_in_hand, job_in}
use Rattle.nvme_jobs.specs.declared.dispatched.Dispatched.{Dispatched}
use Rattle.nvme_jobs.specs.inside.Jobs.{JobsView}
use Rattle.nvme_jobs.specs.inside.Standing.{HoldsJobs, IsPickedPlace, PostedAreServed, NoneInHandPosted}

-- ---- weights of jobs
-- a weight of jobs that leaves out those of other tickets
abbrev at_ticket : ℕ → (Job → ℕ) → Job → ℕ
at_ticket ticket w j = if j.ticket == ticket then w j else 0

-- it weighs no more
at_most : (ticket : ℕ) (w : Job → ℕ) (j : Job) → at_ticket ticket w j ≤ w j
at_most ticket w j = by (j.ticket == ticket) where
  by : (b : Bool) → (if b then w j else 0) ≤ w j
  by true = omega arith
  by false = omega arith

-- commands with other tickets weigh nothing
none_at : (sizes : List ℕ) (ticket : ℕ) (w : Job → ℕ) (ds : List Dispatched) → All (λ (d : Dispatched). (d.ticket == ticket) ≡ false) ds
    → sum_by (at_ticket ticket w) (map (job_in sizes) ds) ≡ 0
none_at sizes ticket w [] others = refl
none_at sizes ticket w (d ∷ ds) others =
    let Other : Dispatched → Type 0 = λ x. (x.ticket == ticket) ≡ false in
    let first : at_ticket ticket w (job_in sizes d) ≡ 0 = rw (All-head Other d ds others) refl in
    omega (arith, first, none_at sizes ticket w ds (All-tail Other d ds others), sum_by-cons (at_ticket ticket w) (job_in sizes d) (map (job_in sizes) ds))

-- ---- commands in hand
-- a place that is in hand is that of some command there
is_among : (r i : ℕ) (ds : List Dispatched) (k : ℕ) (e : Dispatched) → k < length ds → (slice_index_or ds k e).place.region ≡ r → (slice_index_or ds k e).place.index ≡ i
    → list_any (λ (d : Dispatched). d.place.region == r && d.place.index == i) ds ≡ true
is_among r i [] k e lt region index = absurd (omega (arith, lt))
is_among r i (d ∷ ds) zero e lt region index = rw (eq-eqb d.place.region r region, eq-eqb d.place.index i index) refl
is_among r i (d ∷ ds) (suc k) e lt region index =
    by (d.place.region == r && d.place.index == i) (is_among r i ds k e (omega (arith, lt)) region index) where
      by : (b : Bool) → list_any (λ (x : Dispatched). x.place.region == r && x.place.index == i) ds ≡ true
          → (b || list_any (λ (x : Dispatched). x.place.region == r && x.place.index == i) ds) ≡ true
      by true h = refl
      by false h = h

module _ (sizes : List ℕ) (past : Past) (j : JobsView) (jobs : HoldsJobs sizes past j) (served : PostedAreServed past) where
  -- an answered place was picked
  answered_picked : (r i : ℕ) → IsAnsweredIo past r i → IsPickedPlace past r i
  answered_picked r i a =
      let both = and_parts (nat_lt i (length (fetched past r))) (not (is_waiting (fate_of past r i))) (served r i a.posted) in
      record {
        there = ltb-true i (length (fetched past r)) both.0;
        was_picked = counts_true (is_picked (fate_of past r i))
            (omega (arith, one_fate_of past r i, ap one_if (waits_not (is_waiting (fate_of past r i)) both.1), ap one_if a.not_aborted));
      } where
        counts_true : (b : Bool) → 1 ≤ one_if b → b ≡ true
        counts_true true l = refl
        counts_true false l = absurd (omega (arith, l))

        waits_not : (b : Bool) → not b ≡ true → b ≡ false
        waits_not true h = cc h
        waits_not false h = refl

  -- so it has a ticket
  pub answers-have_tickets : AnswersHaveTickets past
  answers-have_tickets r i a = jobs.covers r i (ne_eqb r 0 a.io) (answered_picked r i a)

  module _ (unposted : NoneInHandPosted past j.hands) where
    -- which is that of no command in hand
    not_in_hand : (r i ticket : ℕ) → IsAnsweredIo past r i → HasTicket past ticket r i → All (λ (d : Dispatched). (d.ticket == ticket) ≡ false) (in_hand j.hands)
    not_in_hand r i ticket a counts k e lt =
        let d : Dispatched = slice_index_or (in_hand j.hands) k e in
        ne_eqb d.ticket ticket (λ same.
        let place : place_at d.place.region d.place.index ≡ place_at r i =
        same_Some (place_at d.place.region d.place.index) (place_at r i) (sym (jobs.account.places k e lt) ∙ ap (slice_get (dispatched past)) same ∙ counts) in
        let here : is_in_hand j.hands r i ≡ true =
        is_among r i (in_hand j.hands) k e lt (ap (λ (p : Place). p.region) place) (ap (λ (p : Place). p.index) place) in
        let posted = a.posted in
        let not_posted = unposted r i here in
        cc)

    -- so its result was gained
    pub answers-have_results : AnswersHaveResults sizes past j.hands
    answers-have_results r i a =
        let h = jobs.account in
        let hands : Hands = j.hands in
        let job : Dispatched → Job = job_in sizes in
        let all : List Job = h.handed ++ map job hands.unhanded in
        let it = answers-have_tickets r i a in
        let there = job_there sizes past 0 (dispatched past) all h.jobs_are it.0 (place_at r i) it.1 in
        let its : IsJobOf sizes past it.0 (place_at r i) there.0 = subst (λ (n : ℕ). IsJobOf sizes past n (place_at r i) there.0) (omega arith) there.2 in
        record {
          ticket = it.0;
          counts = it.1;
          job = there.0;
          is_of_place = its;
          gained = λ w.
              let whole : Job → ℕ = λ x. w (result_of x) in
              let own : Job → ℕ = at_ticket it.0 whole in
              let mine : own there.0 ≡ w (result_of there.0) = rw (eq-eqb there.0.ticket it.0 its.ticket_is) refl in
              let one : own there.0 ≤ sum_by own all =
              subst (λ (x : Job). own x ≤ sum_by own all) (get_or_from_slice_get all it.0 there.0 there.0 there.1)
              (get_or-le-sum_by own all it.0 there.0 (slice_get_within all it.0 there.0 there.1)) in
              let none : sum_by own (map job (in_hand hands)) ≡ 0 = none_at sizes it.0 whole (in_hand hands) (not_in_hand r i it.0 a it.1) in
              omega (
                arith,
                mine,
                one,
                none,
                sum_by-append own h.handed (map job hands.unhanded),
                ap (sum_by own) (map-append job hands.running hands.unhanded),
                sum_by-append own (map job hands.running) (map job hands.unhanded),
                h.each_handed own,
                sum_by-le-sum_by own whole h.done (at_most it.0 whole),
                sum_by_map result_of w h.done,
                h.each_gained w,
              );
        }
