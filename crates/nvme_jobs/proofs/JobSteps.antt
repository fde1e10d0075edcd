-- The jobs stand after an I/O pick, and after each of their own steps.
use Rattle.std.proofs.Common.{◌≡◌, ℕ, ◌+◌, ◌<◌, ◌≤◌, ◌==◌, Bool, true, false, List, [], ◌∷◌, ◌++◌, length, map, take, Option, Some, refl, sym, ap, ◌∙◌, subst, arith, inl, inr, slice_get, slice_index_or}
use Rattle.std.specs.Prelude.{sum_by, option_map}
use Rattle.std.specs.List.{flat_map}
use Rattle.std.proofs.lemmas.Bool.{cases_eq, eq-eqb, ne_eqb}
use Rattle.std.proofs.lemmas.List.{append-nil, append_assoc, map-append, length-append, length-map, length_push, length-take, get_or-append-add}
use Rattle.std.proofs.lemmas.List.Sums.{sum_by-append, sum_by-cons}
use Rattle.std.proofs.lemmas.List.Elements.{All-nil, All-cons, All-append, All-same, All-head, All-tail}
use Rattle.std.proofs.lemmas.Option.{slice_get-map, slice_get-get_or, get_or_from_slice_get}
use Rattle.nvme_lane.specs.View.{GetView}
use Rattle.nvme_arbiter.specs.declared.pick.Pick.{Pick}
use Rattle.nvme_arbiter.specs.declared.pick.Seen.{Seen}
use Rattle.nvme_entry.specs.declared.submission.Sqe.{Sqe}
use Rattle.nvme_entry.specs.Outcome.{outcome_of}
use Rattle.nvme_pool.specs.Jobs.{result_of, status_of}
use Rattle.nvme_pool.specs.declared.jobs.Job.{Job}
use Rattle.nvme_pool.specs.declared.jobs.Finished.{Finished}
use Rattle.nvme_pool.proofs.Retiring.{sum_by_map}
use Rattle.nvme_log.specs.declared.event.Event.TheVariants as event
use Rattle.nvme_log.specs.declared.place.Place.{Place}
use Rattle.nvme_log.specs.Limits.{max_outstanding}
use Rattle.nvme_log.specs.Rules.{Past}
use Rattle.nvme_log.specs.Queues.{Queue, open_sq, has_region}
use Rattle.nvme_log.specs.Places.{waiting, entry_at, fate_of, is_picked, one_if}
use Rattle.nvme_log.specs.Dispatches.{place_at, dispatched_by, dispatched}
use Rattle.nvme_jobs.specs.Executions.{AreJobs}
use Rattle.nvme_log.proofs.Posts.{slice_get-next}
use Rattle.nvme_log.proofs.Waiting.{contains-times, fate_of-same, picked-pick_other}
use Rattle.nvme_jobs.specs.declared.dispatched.Dispatched.{Dispatched}
use Rattle.nvme_jobs.specs.Answers.{HasTicket}
use Rattle.nvme_jobs.specs.Hands.{in_hand, job_in}
use Rattle.nvme_jobs.specs.JobAccount.{HasItsTicket}
use Rattle.nvme_jobs.specs.inside.Jobs.{JobsView, next_job, with_job, HandsOne, GainsOne, GainsStray}
use Rattle.nvme_jobs.specs.inside.Standing.{HoldsJobs, HoldsJobsBut, IsDispatched, IsPickedPlace, AreFreshJobs, taken_by}
use Rattle.nvme_jobs.proofs.JobAccounts.{each-gained, AreJobs-stay, AreJobs-append, sum_by-flat_map, sum_by-gained_one, sum_by-one, sum_by-gained, result_is}
use Rattle.nvme_jobs.proofs.PickedPlaces.{slice_get-append_left, is_picked-pick}
use Rattle.nvme_jobs.proofs.Leaving.{but-none, none-but}

-- where no command was picked there are no jobs
pub jobs-when-fresh : (sizes : List ℕ) (j : JobsView) → AreFreshJobs j → HoldsJobs sizes [] j
jobs-when-fresh sizes j fresh = record {
  tickets_are = fresh.tickets;
  few = omega (arith, fresh.tickets);
  account = record {
    handed = [];
    seat_handed = fresh.none_handed ∙ sym (append-nil j.hands.came.handed);
    jobs_are = subst (λ (ds : List Dispatched). AreJobs sizes [] 0 [] ([] ++ map (job_in sizes) ds)) (sym fresh.none_unhanded) tt;
    done = [];
    each_handed = λ w. rw fresh.none_running refl;
    others = flat_map (λ (g : GetView Finished). g.got) j.hands.seat.ends;
    each_gained = λ w. omega (arith, sum_by-flat_map w (λ (g : GetView Finished). g.got) j.hands.seat.ends);
    places = All-same (HasItsTicket []) (in_hand j.hands) [] (rw (fresh.none_running, fresh.none_unhanded) refl) (All-nil (HasItsTicket []));
  };
  each = All-same (IsDispatched []) (in_hand j.hands) [] (rw (fresh.none_running, fresh.none_unhanded) refl) (All-nil (IsDispatched []));
  covers = λ r i io it. let none = it.there in absurd (omega arith);
}

-- ---- an I/O pick
-- an item of a list stands behind those of another
behind : {X : Type 0} (xs ys : List X) (j : ℕ) (y : X) → slice_get ys j ≡ Some y → j < length ys → slice_get (xs ++ ys) (length xs + j) ≡ Some y
behind xs ys j y is lt =
    slice_get-get_or (xs ++ ys) (length xs + j) y (omega (arith, lt, length-append xs ys))
    ∙ ap Some (get_or-append-add xs ys j y ∙ get_or_from_slice_get ys j y y is)

-- a place of the region that is picked now was so before, or stands among those that the pick takes
io_picked : (past : Past) (seen : List Seen) (pick : Pick) (r : ℕ) → has_region r (open_sq past pick.qid) ≡ true → (ps : List Place) (i : ℕ)
    → (IsPickedPlace past r i → (ticket : ℕ) × (slice_get ps ticket ≡ Some (place_at r i))) → IsPickedPlace (event.Pick seen pick ∷ past) r i
    → (ticket : ℕ) × (slice_get (ps ++ map (place_at r) (take pick.n (waiting past r))) ticket ≡ Some (place_at r i))
io_picked past seen pick r own ps i was it = by (is_picked (fate_of past r i)) refl where
  by : (b : Bool) → is_picked (fate_of past r i) ≡ b → (ticket : ℕ) × (slice_get (ps ++ map (place_at r) (take pick.n (waiting past r))) ticket ≡ Some (place_at r i))
  by true e =
      let t = was (record { there = it.there; was_picked = e }) in
      (t.0, slice_get-append_left ps (map (place_at r) (take pick.n (waiting past r))) t.0 (place_at r i) t.1)
  by false e =
      let count = is_picked-pick past seen pick r own i it.there in
      let ones : one_if (is_picked (fate_of (event.Pick seen pick ∷ past) r i)) ≡ 1 = ap one_if it.was_picked in
      let none : one_if (is_picked (fate_of past r i)) ≡ 0 = ap one_if e in
      let c = contains-times i (take pick.n (waiting past r)) (omega (arith, count, ones, none)) in
      let at : slice_get (map (place_at r) (take pick.n (waiting past r))) c.0 ≡ Some (place_at r i) =
      slice_get-map (place_at r) (take pick.n (waiting past r)) c.0 ∙ ap (option_map (place_at r)) (slice_get-get_or (take pick.n (waiting past r)) c.0 i c.1 ∙ ap Some c.2) in
      (length ps + c.0, behind ps (map (place_at r) (take pick.n (waiting past r))) c.0 (place_at r i) at (omega (arith, c.1, length-map (take pick.n (waiting past r)) (place_at r))))

-- a pick of an I/O queue leaves the jobs of the places that it takes to be added
pub jobs-picked : (sizes : List ℕ) (past : Past) (seen : List Seen) (pick : Pick) (queue : Queue) (j : JobsView) → open_sq past pick.qid ≡ Some queue
    → (pick.qid == 0) ≡ false → pick.n ≤ max_outstanding → HoldsJobs sizes past j → HoldsJobsBut sizes (event.Pick seen pick ∷ past) j (taken_by past queue pick)
jobs-picked sizes past seen pick queue j is_open io places h =
    let r : ℕ = queue.region in
    let later : Past = event.Pick seen pick ∷ past in
    let own : List Place = taken_by past queue pick in
    let from : dispatched later ≡ dispatched past ++ own = ap (λ (o : Option Queue). dispatched past ++ dispatched_by past pick o) is_open ∙ rw io refl in
    let a = h.account in
    record {
      added = dispatched past;
      dispatched_are = from;
      tickets_are = h.tickets_are;
      few = omega (
        arith,
        h.few,
        h.tickets_are,
        places,
        ap (λ (ps : List Place). length ps) from,
        length-append (dispatched past) own,
        length-map (take pick.n (waiting past r)) (place_at r),
        length-take pick.n (waiting past r),
      );
      account = record {
        handed = a.handed;
        seat_handed = a.seat_handed;
        jobs_are = AreJobs-stay sizes past later (λ x i e is. is) 0 (dispatched past) (a.handed ++ map (job_in sizes) j.hands.unhanded) a.jobs_are;
        done = a.done;
        each_handed = a.each_handed;
        others = a.others;
        each_gained = a.each_gained;
        places = λ i e lt.
            let d : Dispatched = slice_index_or (in_hand j.hands) i e in
            ap (λ (ps : List Place). slice_get ps d.ticket) from ∙ slice_get-append_left (dispatched past) own d.ticket (place_at d.place.region d.place.index) (a.places i e lt);
      };
      each = λ i e lt. record { entry = (h.each i e lt).entry };
      covers = λ x i apart it. elim (cases_eq r x) [
        | inl e ↦
            let own_queue : has_region x (open_sq past pick.qid) ≡ true = ap (has_region x) is_open ∙ eq-eqb r x e in
            let found = io_picked past seen pick x own_queue (dispatched past) i (h.covers x i apart) it in
            let same : map (place_at x) (take pick.n (waiting past x)) ≡ own = ap (λ (z : ℕ). map (place_at z) (take pick.n (waiting past z))) (sym e) in
            (found.0, ap (λ (ps : List Place). slice_get ps found.0) from ∙ ap (λ (ps : List Place). slice_get (dispatched past ++ ps) found.0) (sym same) ∙ found.1)
        | inr d ↦
            let other_queue : has_region x (open_sq past pick.qid) ≡ false = ap (has_region x) is_open ∙ ne_eqb r x d in
            let fate = fate_of-same past later x (picked-pick_other past seen pick x other_queue) (λ k. refl) i in
            let was = h.covers x i apart (record { there = it.there; was_picked = ap is_picked (sym fate) ∙ it.was_picked }) in
            (was.0, ap (λ (ps : List Place). slice_get ps was.0) from ∙ slice_get-append_left (dispatched past) own was.0 (place_at x i) was.1)
      ];
    }

-- ---- a job is added
-- the next of them is added, with the entry of its place
pub jobs-added : (sizes : List ℕ) (past : Past) (j : JobsView) (tag : ℕ) (p : Place) (entry : Sqe) (rest : List Place)
    → HoldsJobsBut sizes past j (p ∷ rest) → entry_at past p.region p.index ≡ Some entry → HoldsJobsBut sizes past (with_job j (next_job j tag p entry)) rest
jobs-added sizes past j tag p entry rest h is =
    let d : Dispatched = next_job j tag p entry in
    let job : Job = job_in sizes d in
    let a = h.account in
    let jobs : a.handed ++ map (job_in sizes) (j.hands.unhanded ++ d ∷ []) ≡ (a.handed ++ map (job_in sizes) j.hands.unhanded) ++ job ∷ [] =
    ap (λ (js : List Job). a.handed ++ js) (map-append (job_in sizes) j.hands.unhanded (d ∷ [])) ∙ sym (append_assoc a.handed (map (job_in sizes) j.hands.unhanded) (job ∷ [])) in
    let from : dispatched past ≡ (h.added ++ p ∷ []) ++ rest = h.dispatched_are ∙ sym (append_assoc h.added (p ∷ []) rest) in
    let counts : HasTicket past j.tickets p.region p.index =
    ap (slice_get (dispatched past)) h.tickets_are ∙ ap (λ (ps : List Place). slice_get ps (length h.added)) from ∙ slice_get-next h.added rest p in
    record {
      added = h.added ++ p ∷ [];
      dispatched_are = from;
      tickets_are = omega (arith, h.tickets_are, length_push h.added p);
      few = h.few;
      account = record {
        handed = a.handed;
        seat_handed = a.seat_handed;
        jobs_are = subst (λ (js : List Job). AreJobs sizes past 0 (h.added ++ p ∷ []) js) (sym jobs)
            (AreJobs-append sizes past 0 h.added (p ∷ []) (a.handed ++ map (job_in sizes) j.hands.unhanded) (job ∷ []) a.jobs_are
            (record { ticket_is = omega (arith, h.tickets_are); entry_is = is; spaces_are = refl }, tt));
        done = a.done;
        each_handed = a.each_handed;
        others = a.others;
        each_gained = a.each_gained;
        places = All-same (HasItsTicket past) _ (in_hand j.hands ++ d ∷ []) (sym (append_assoc j.hands.running j.hands.unhanded (d ∷ [])))
            (All-append (HasItsTicket past) (in_hand j.hands) (d ∷ []) a.places (All-cons (HasItsTicket past) d [] counts (All-nil (HasItsTicket past))));
      };
      each = All-same (IsDispatched past) _ (in_hand j.hands ++ d ∷ []) (sym (append_assoc j.hands.running j.hands.unhanded (d ∷ [])))
          (All-append (IsDispatched past) (in_hand j.hands) (d ∷ []) h.each
          (All-cons (IsDispatched past) d [] (record { entry = is }) (All-nil (IsDispatched past))));
      covers = h.covers;
    }

-- ---- jobs that are handed, and results that are gained, also where some are still to be added
-- a job that is handed leaves what is kept, and runs
pub jobs_but-handed : (sizes : List ℕ) (past : Past) (old new : JobsView) (rest : List Place) → HandsOne sizes old new → HoldsJobsBut sizes past old rest → HoldsJobsBut sizes past new rest
jobs_but-handed sizes past old new rest one h = subst (λ (j : JobsView). HoldsJobsBut sizes past j rest) (sym one.are) (
    let a = h.account in
    let hands = old.hands in
    let d : Dispatched = one.dispatched in
    let job : Job = job_in sizes d in
    let same : (hands.running ++ d ∷ []) ++ one.rest ≡ in_hand hands =
    append_assoc hands.running (d ∷ []) one.rest ∙ ap (λ (ds : List Dispatched). hands.running ++ ds) (sym one.can.oldest) in
    record {
      added = h.added;
      dispatched_are = h.dispatched_are;
      tickets_are = h.tickets_are;
      few = h.few;
      account = record {
        handed = a.handed ++ job ∷ [];
        seat_handed = one.can.handed ∙ ap (λ (js : List Job). js ++ job ∷ []) a.seat_handed ∙ append_assoc hands.came.handed a.handed (job ∷ []);
        jobs_are = subst (λ (js : List Job). AreJobs sizes past 0 h.added js)
            (ap (λ (ds : List Dispatched). a.handed ++ map (job_in sizes) ds) one.can.oldest ∙ sym (append_assoc a.handed (job ∷ []) (map (job_in sizes) one.rest)))
            a.jobs_are;
        done = a.done;
        each_handed = λ w.
            omega (
              arith,
              a.each_handed w,
              sum_by-append w a.handed (job ∷ []),
              sum_by-one w job,
              ap (sum_by w) (map-append (job_in sizes) hands.running (d ∷ [])),
              sum_by-append w (map (job_in sizes) hands.running) (job ∷ []),
            );
        others = a.others;
        each_gained = λ w. ap (sum_by (λ (g : GetView Finished). sum_by w g.got)) one.can.ends ∙ a.each_gained w;
        places = All-same (HasItsTicket past) _ (in_hand hands) same a.places;
      };
      each = All-same (IsDispatched past) _ (in_hand hands) same h.each;
      covers = h.covers;
    })

-- a result that is gained is that of a job that ran
pub jobs_but-gained : (sizes : List ℕ) (past : Past) (old new : JobsView) (d : Dispatched) (result : Finished) (rest : List Place) → GainsOne sizes old new d result
    → HoldsJobsBut sizes past old rest → HoldsJobsBut sizes past new rest
jobs_but-gained sizes past old new d result rest one h = subst (λ (j : JobsView). HoldsJobsBut sizes past j rest) (sym one.are) (
    let a = h.account in
    let hands = old.hands in
    let job : Job = job_in sizes d in
    record {
      added = h.added;
      dispatched_are = h.dispatched_are;
      tickets_are = h.tickets_are;
      few = h.few;
      account = record {
        handed = a.handed;
        seat_handed = one.can.handed ∙ a.seat_handed;
        jobs_are = a.jobs_are;
        done = job ∷ a.done;
        each_handed = λ w.
            let of_command : Dispatched → ℕ = λ x. w (job_in sizes x) in
            omega (
              arith,
              a.each_handed w,
              sum_by_map (job_in sizes) w hands.running,
              sum_by-gained_one of_command hands.running d one.rest one.its.running_is,
              sum_by_map (job_in sizes) w one.rest,
              sum_by-cons w job a.done,
            );
        others = a.others;
        each_gained = λ w.
            omega (
              arith,
              a.each_gained w,
              sum_by-gained w hands.seat.ends one.seat.ends result one.can.gained,
              ap w (result_is result job one.its.its_job),
              sum_by-cons w (result_of job) (map result_of a.done),
            );
        places = All-tail (HasItsTicket past) d (one.rest ++ hands.unhanded) (each-gained (HasItsTicket past) hands d one.rest one.its.running_is a.places);
      };
      each = All-tail (IsDispatched past) d (one.rest ++ hands.unhanded) (each-gained (IsDispatched past) hands d one.rest one.its.running_is h.each);
      covers = h.covers;
    })

-- a result of no job is one of the others
pub jobs_but-strayed : (sizes : List ℕ) (past : Past) (old new : JobsView) (ticket : ℕ) (rest : List Place) → GainsStray sizes old new ticket
    → HoldsJobsBut sizes past old rest → HoldsJobsBut sizes past new rest
jobs_but-strayed sizes past old new ticket rest one h = subst (λ (j : JobsView). HoldsJobsBut sizes past j rest) (sym one.are) (
    let a = h.account in
    record {
      added = h.added;
      dispatched_are = h.dispatched_are;
      tickets_are = h.tickets_are;
      few = h.few;
      account = record {
        handed = a.handed;
        seat_handed = one.can.handed ∙ a.seat_handed;
        jobs_are = a.jobs_are;
        done = a.done;
        each_handed = a.each_handed;
        others = one.result ∷ a.others;
        each_gained = λ w.
            omega (arith, a.each_gained w, sum_by-gained w old.hands.seat.ends one.seat.ends one.result one.can.gained, sum_by-cons w one.result a.others);
        places = a.places;
      };
      each = h.each;
      covers = h.covers;
    })

-- ---- the same where none is still to be added
pub jobs-handed : (sizes : List ℕ) (past : Past) (old new : JobsView) → HandsOne sizes old new → HoldsJobs sizes past old → HoldsJobs sizes past new
jobs-handed sizes past old new one h = but-none sizes past new (jobs_but-handed sizes past old new [] one (none-but sizes past old h))

pub jobs-gained : (sizes : List ℕ) (past : Past) (old new : JobsView) (d : Dispatched) (result : Finished) → GainsOne sizes old new d result
    → HoldsJobs sizes past old → HoldsJobs sizes past new
jobs-gained sizes past old new d result one h = but-none sizes past new (jobs_but-gained sizes past old new d result [] one (none-but sizes past old h))

pub jobs-strayed : (sizes : List ℕ) (past : Past) (old new : JobsView) (ticket : ℕ) → GainsStray sizes old new ticket → HoldsJobs sizes past old → HoldsJobs sizes past new
jobs-strayed sizes past old new ticket one h = but-none sizes past new (jobs_but-strayed sizes past old new ticket [] one (none-but sizes past old h))

-- ---- what is gained
-- the result that is gained is that of the command at its place: it has the status that comes of the command
pub gained-answers : (sizes : List ℕ) (past : Past) (old new : JobsView) (d : Dispatched) (result : Finished) (rest : List Place) → GainsOne sizes old new d result
    → HoldsJobsBut sizes past old rest → (entry_at past d.place.region d.place.index ≡ Some d.entry) × HasItsTicket past d × (status_of result ≡ outcome_of d.entry sizes)
gained-answers sizes past old new d result rest one h =
    let entry : result.entry ≡ d.entry = ap (λ (j : Job). j.entry) one.its.its_job in
    let spaces : result.spaces ≡ sizes = ap (λ (j : Job). j.spaces) one.its.its_job in (
      (All-head (IsDispatched past) d (one.rest ++ old.hands.unhanded) (each-gained (IsDispatched past) old.hands d one.rest one.its.running_is h.each)).entry,
      All-head (HasItsTicket past) d (one.rest ++ old.hands.unhanded) (each-gained (HasItsTicket past) old.hands d one.rest one.its.running_is h.account.places),
      result.right ∙ (λ t. outcome_of (entry t) (spaces t)),
    )
