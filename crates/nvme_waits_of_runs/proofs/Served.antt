-- No command of a run of a model runs longer than the longest service.
use Rattle.std.proofs.Common.{◌≡◌, ◌≢◌, ◌∙◌, ◌≤◌, ◌<◌, ◌&&◌, ℕ, zero, suc, ◌+◌, ◌-◌, Bool, true, false, not, nat_lt, cond, Contains, List, [], ◌∷◌, length, get_or, sum_by, Option, Some, None, option_map, unwrap_or, inl, inr, refl, sym, ap, subst, arith}
use Rattle.std.specs.Prelude.{IfSome, slice_get}
use Rattle.std.proofs.lemmas.Bool.{cases_Bool, cases_eq, true≢false}
use Rattle.std.proofs.lemmas.List.Sums.{sum_by-cons}
use Rattle.std.proofs.lemmas.Option.{get_or_from_slice_get, same_Some, slice_get-map, slice_get_within}
use Rattle.nvme_clock.specs.Held.{Held, first_of}
use Rattle.nvme_clock.specs.declared.events.Event.{Event as Timed}
use Rattle.nvme_load.specs.Arrivals.{at_start, request_at}
use Rattle.nvme_load.specs.Longest.{longest_by}
use Rattle.nvme_load.specs.declared.arrivals.Arrivals.{Arrivals}
use Rattle.nvme_load.specs.declared.arrivals.Arrivals.TheVariants.{Poisson, Regular, OnOff, Closed, Replay as ByList}
use Rattle.nvme_load.specs.declared.mix.Mix.{Mix}
use Rattle.nvme_load.specs.declared.mix.Operation.{Operation}
use Rattle.nvme_load.specs.declared.mix.Operation.TheVariants.{Read, Write, Flush}
use Rattle.nvme_load.specs.declared.places.Places.{Places}
use Rattle.nvme_load.specs.declared.replay.Replay.{Replay}
use Rattle.nvme_load.specs.declared.replay.Request.{Request as Listed}
use Rattle.nvme_load.specs.declared.services.Services.{Services}
use Rattle.nvme_model.specs.declared.device.Pauses.{Pauses}
use Rattle.nvme_model.specs.declared.finished.Finished.{Finished as Told}
use Rattle.nvme_model.specs.declared.model.Model.{Model}
use Rattle.nvme_model.specs.declared.queue.Queue.{Queue}
use Rattle.nvme_simulation.specs.Asking.{Asking, Draws, IsAsked, IsPlaced, asked_in, asking_of}
use Rattle.nvme_simulation.specs.Beginnings.{IsNewOf, IsUnused}
use Rattle.nvme_simulation.specs.Following.{closed_in, goes_on, is_closed}
use Rattle.nvme_simulation.specs.Loads.{Load, load_in, load_of}
use Rattle.nvme_simulation.specs.Marks.{arrived, flight_at, went}
use Rattle.nvme_simulation.specs.Passing.{OneComesIf, Passes}
use Rattle.nvme_simulation.specs.Pausing.{NextPause, is_over}
use Rattle.nvme_simulation.specs.Planning.{ArrivalPlans}
use Rattle.nvme_simulation.specs.Plans.{IsFirst, IsNext, events_of}
use Rattle.nvme_simulation.specs.Progress.{AllGoOn, Becomes, Between, ComesOne, EndsOne, GoOn, HostComesOne, HostEndsOne, HostGoesOn, OneEnds}
use Rattle.nvme_simulation.specs.Runs.{IsRun, Moment}
use Rattle.nvme_simulation.specs.Simulations.{counts_next, hosts_of, may_come_to, picks_of, time_of}
use Rattle.nvme_simulation.specs.Stages.{came_in, next_in}
use Rattle.nvme_simulation.specs.Stepping.{HasStepped}
use Rattle.nvme_simulation.specs.Times.{now_of as time_in}
use Rattle.nvme_simulation.specs.declared.agenda.Agenda.{Agenda}
use Rattle.nvme_simulation.specs.declared.agenda.Event.{Event}
use Rattle.nvme_simulation.specs.declared.agenda.Event.TheVariants as event
use Rattle.nvme_simulation.specs.declared.flight.Flight.{Flight}
use Rattle.nvme_simulation.specs.declared.flight.Flights.{Flights}
use Rattle.nvme_simulation.specs.declared.flight.Request.{Request}
use Rattle.nvme_simulation.specs.declared.flight.Stage.TheVariants.{Done}
use Rattle.nvme_simulation.specs.declared.happening.Happening.{Happening}
use Rattle.nvme_simulation.specs.declared.happening.Happening.TheVariants.{Came, Picked, Settled, Finished, Paused, Resumed, Over}
use Rattle.nvme_simulation.specs.declared.host.Host.{Host}
use Rattle.nvme_simulation.specs.declared.hosts.Hosts.{Hosts}
use Rattle.nvme_simulation.specs.declared.machine.Machine.{Machine}
use Rattle.nvme_simulation.specs.declared.simulation.Simulation.{Simulation}
use Rattle.nvme_waits.specs.Longest.{MayCome, longest_of, share_of}
use Rattle.nvme_waits.proofs.Within.{none_takes_longer}
use Rattle.nvme_waits_of_runs.specs.Models.{NoneRunsLonger}
use Rattle.nvme_waits_of_runs.specs.Waits.{AllRunAtMost, RunsAtMost}
use Rattle.nvme_waits_of_runs.proofs.Drawn.{drawn_has, drawn_within}
use Rattle.nvme_waits_of_runs.proofs.Pending.{Awaits, arrives, awaits_first, awaits_less, awaits_next, both, ends_no_more, found_before, found_one, goes_no_more, host_at, own_arrives, past_end, pending, pending_begin, pending_end, pending_if, pending_pushed, pending_takes}
use Rattle.nvme_waits_of_runs.proofs.Services.{Short, request_stays}
use Rattle.nvme_waits_of_runs.proofs.Steps.{Comes, comes, rest_is, rest_of}

-- ---- what a command asks for stays
went_asks : (stages now : ℕ) (f : Flight) → (went stages now f).request ≡ f.request
unfolding went
went_asks zero now f = refl
went_asks (suc n) now f = request_stays (went n now f).stage now (went n now f) ∙ went_asks n now f

becomes_short : (longest now : ℕ) (o p : Option Flight) → Becomes now o p → Short longest o → Short longest p
becomes_short longest now None None b short = tt
becomes_short longest now None (Some g) b short = absurd b
becomes_short longest now (Some f) None b short = tt
becomes_short longest now (Some f) (Some g) b short =
    let same : g.request ≡ f.request = ap (λ (x : Flight). x.request) b.is ∙ went_asks b.stages now f in
    subst (λ (r : Request). r.service ≤ longest) (sym same) short

goes_short : (longest now : ℕ) (a b : Flights) → GoOn now a b → ((n : ℕ) → Short longest (flight_at a n)) → (n : ℕ) → Short longest (flight_at b n)
goes_short longest now a b g short n = becomes_short longest now (flight_at a n) (flight_at b n) (g.times n) (short n)

ends_short : (longest number now : ℕ) (flight : Flight) (a b : Flights) → EndsOne number now flight a b → ((n : ℕ) → Short longest (flight_at a n))
    → (n : ℕ) → Short longest (flight_at b n)
ends_short longest number now flight a b e short n = elim (cases_eq n number) [
  | inl same ↦
      let old : Short longest (Some e.old) = subst (Short longest) e.found (short number) in
      let ended : Short longest (Some flight) = becomes_short longest now (Some e.old) (Some flight) e.gone old in
      subst (λ (k : ℕ). Short longest (flight_at b k)) (sym same) (becomes_short longest now (Some flight) (flight_at b number) e.here ended)
  | inr other ↦ becomes_short longest now (flight_at a n) (flight_at b n) (e.times n other) (short n)
]

comes_short : (longest now : ℕ) (request : Request) (a b : Flights) → ComesOne now request a b → request.service ≤ longest → ((n : ℕ) → Short longest (flight_at a n))
    → (n : ℕ) → Short longest (flight_at b n)
comes_short longest now request a b c new short n = elim (cases_eq n (came_in a)) [
  | inl same ↦
      subst (λ (k : ℕ). Short longest (flight_at b k)) (sym same) (becomes_short longest now (Some (arrived now request)) (flight_at b (came_in a)) c.comes new)
  | inr other ↦ becomes_short longest now (flight_at a n) (flight_at b n) (c.others n other) (short n)
]

-- ---- the load of a queue
-- a host asks for what its queue does
pub record AsksAs (q : Queue) (a : Asking) : Type 0 where
  pub arrivals : a.load.arrivals ≡ q.arrivals
  pub mix : a.load.mix ≡ q.mix
  pub services : a.load.services ≡ q.services
  pub extent : a.load.places.extent ≡ q.places.extent

placed_extent : (a b : Asking) (o : Operation) (block blocks : ℕ) → IsPlaced a b o block blocks → b.load.places.extent ≡ a.load.places.extent
placed_extent a b Flush block blocks p = ap (λ (x : Places). x.extent) p.1.1.0
placed_extent a b Read block blocks p = ap (λ (x : Places). x.extent) p.1.1
placed_extent a b Write block blocks p = ap (λ (x : Places). x.extent) p.1.1

drawn_extent : (o : Option Listed) (a b : Asking) (r : Request) → IsAsked o a b (asked_in r) → b.load.places.extent ≡ a.load.places.extent
drawn_extent None a b r d = placed_extent a b r.operation r.block r.blocks d.1
drawn_extent (Some l) a b r d = ap (λ (x : Places). x.extent) d.1.1.1.places

drawn_asks : (number : ℕ) (q : Queue) (a b : Asking) (r : Request) → Draws number a b r → AsksAs q a → AsksAs q b
drawn_asks number q a b r d its = record {
  arrivals = d.same.arrivals ∙ its.arrivals;
  mix = d.same.mix ∙ its.mix;
  services = d.same.services ∙ its.services;
  extent = drawn_extent (request_at a.load.arrivals number) a b r d.asked ∙ its.extent;
}

-- the blocks of a command that is drawn. A flush has none, and none is looked at
placed_longest : (q : Queue) (a b : Asking) (o : Operation) (block blocks : ℕ) → IsPlaced a b o block blocks → AsksAs q a
    → longest_by q.services o blocks ≡ longest_by q.services o q.places.extent.blocks
placed_longest q a b Flush block blocks p its = refl
placed_longest q a b Read block blocks p its = ap (longest_by q.services Read) (p.0 ∙ ap (λ (e : _). e.blocks) its.extent)
placed_longest q a b Write block blocks p its = ap (longest_by q.services Write) (p.0 ∙ ap (λ (e : _). e.blocks) its.extent)

-- a list has no more commands than it has
abbrev Within : (number : ℕ) → Arrivals → Type 0
Within number coming = (list : Replay) → coming ≡ ByList list → number < length list.requests.items

-- a command that may come takes no longer
may_be : (queues : List Queue) (q : Queue) (number : ℕ) (a b : Asking) (r : Request) → Contains queues q → AsksAs q a → Within number q.arrivals
    → IsAsked (request_at q.arrivals number) a b (asked_in r) → longest_by q.services r.operation r.blocks ≤ longest_of queues
may_be queues q number a b r is_one its within asked = by q.arrivals refl within asked
  where
    drawn : (coming : Arrivals) → q.arrivals ≡ coming → MayCome q coming r.operation q.places.extent.blocks → IsAsked None a b (asked_in r)
        → longest_by q.services r.operation r.blocks ≤ longest_of queues
    drawn coming is may d =
        let l = none_takes_longer queues q r.operation q.places.extent.blocks is_one (subst (λ (x : Arrivals). MayCome q x r.operation q.places.extent.blocks) (sym is) may) in
        omega (arith, l, placed_longest q a b r.operation r.block r.blocks d.1 its)

    has : IsAsked None a b (asked_in r) → 0 < share_of q.mix r.operation
    has d = subst (λ (m : Mix). 0 < share_of m r.operation) its.mix (drawn_has a.load.mix r.operation _ _ d.0)

    listed : (list : Replay) → q.arrivals ≡ ByList list → (o : Option Listed) → slice_get list.requests.items number ≡ o → number < length list.requests.items
        → IsAsked o a b (asked_in r) → longest_by q.services r.operation r.blocks ≤ longest_of queues
    listed list is None none l d = absurd (let past = past_end list.requests.items number none in omega (arith, l, past))
    listed list is (Some x) some l d =
        let at : get_or list.requests.items number x ≡ x = get_or_from_slice_get list.requests.items number x x some in
        let may : MayCome q (ByList list) r.operation r.blocks = (x, (number, l, at), (sym d.0, sym d.1.1.0)) in
        none_takes_longer queues q r.operation r.blocks is_one (subst (λ (y : Arrivals). MayCome q y r.operation r.blocks) (sym is) may)

    by : (coming : Arrivals) → q.arrivals ≡ coming → Within number coming → IsAsked (request_at coming number) a b (asked_in r)
        → longest_by q.services r.operation r.blocks ≤ longest_of queues
    by (Poisson mean) is within d = drawn (Poisson mean) is (has d, refl) d
    by (Regular gap) is within d = drawn (Regular gap) is (has d, refl) d
    by (OnOff phases) is within d = drawn (OnOff phases) is (has d, refl) d
    by (Closed host) is within d = drawn (Closed host) is (has d, refl) d
    by (ByList list) is within d = listed list is (slice_get list.requests.items number) refl (within list refl) d

draws_short : (queues : List Queue) (q : Queue) (number : ℕ) (a b : Asking) (r : Request) → Contains queues q → AsksAs q a → Within number q.arrivals → Draws number a b r
    → r.service ≤ longest_of queues
draws_short queues q number a b r is_one its within d =
    let time = drawn_within a.load.services r.operation r.blocks r.service a.services _ d.service in
    let same : longest_by a.load.services r.operation r.blocks ≡ longest_by q.services r.operation r.blocks = ap (λ (s : Services). longest_by s r.operation r.blocks) its.services in
    let may = may_be queues q number a b r is_one its within (subst (λ (x : Arrivals). IsAsked (request_at x number) a b (asked_in r)) its.arrivals d.asked) in
    omega (arith, time, same, may)

-- ---- hosts
-- a host does what its queue does, none of its commands runs longer, and no more are to come than its list has
pub record Serves (queues : List Queue) (k : ℕ) (events : Held Event) (h : Host) : Type 0 where
  pub queue : Queue
  pub at : slice_get queues k ≡ Some queue
  pub asks : AsksAs queue (asking_of h)
  pub short : RunsAtMost (longest_of queues) h
  pub awaits : (list : Replay) → queue.arrivals ≡ ByList list → Awaits (k + 1) (length list.requests.items) h.flights events

abbrev pub AllServe : List Queue → Simulation → Type 0
AllServe queues s = (k : ℕ) → IfSome (slice_get (hosts_of s).all.items k) (Serves queues k (events_of s.machine.agenda))

-- what becomes of a host in a step
pub data Changes (k now : ℕ) (may counts : Bool) (h : Happening) (x y : Host) : Type 0 where
  Goes : HostGoesOn now x y → Changes k now may counts h x y
  Ends : (number : ℕ) (flight : Flight) → HostEndsOne number now flight x y → Changes k now may counts h x y
  ComesHere : h ≡ Came (k + 1) → may ≡ true → HostComesOne now counts x y → Changes k now may counts h x y

becomes_self : (now : ℕ) (o : Option Flight) → Becomes now o o
unfolding went
becomes_self now None = tt
becomes_self now (Some f) = record { stages = 0; is = refl }

stays : (now : ℕ) (h : Host) → HostGoesOn now h h
stays now h = record {
  flights = record { rises = λ n. omega arith; done = λ n is. is; times = λ n. becomes_self now (flight_at h.flights n) };
  asking = refl;
}

found_after : (R : Host → Host → Type 0) (o p : Option Host) (x : Host) → Between R o p → o ≡ Some x → (y : Host) × ((p ≡ Some y) × R x y)
found_after R None p x r is = absurd (cc is)
found_after R (Some w) None x r is = absurd r
found_after R (Some w) (Some y) x r is = (y, (refl, subst (λ (v : Host). R v y) (same_Some w x is) r))

-- what it was, and what becomes of it
abbrev Changed : (k now : ℕ) (may counts : Bool) (h : Happening) (a : Hosts) (y : Host) → Type 0
Changed k now may counts h a y = (x : Host) × ((slice_get a.all.items k ≡ Some x) × Changes k now may counts h x y)

module _ (k now : ℕ) (may counts : Bool) (h : Happening) (a b : Hosts) (y : Host) (at : slice_get b.all.items k ≡ Some y) where
  goes_by : AllGoOn now a b → Changed k now may counts h a y
  goes_by g = let it = found_before (HostGoesOn now) (slice_get a.all.items k) (slice_get b.all.items k) y (g.each k) at in (it.0, (it.1.0, Goes it.1.1))

  same_by : b ≡ a → Changed k now may counts h a y
  same_by same = (y, (ap (λ (hs : Hosts). slice_get hs.all.items k) (sym same) ∙ at, Goes (stays now y)))

  ends_by : (qid number : ℕ) (flight : Flight) → OneEnds qid number now flight a b → Changed k now may counts h a y
  ends_by qid number flight e = elim (cases_eq k e.place) [
    | inl same ↦
        let it = found_one (HostEndsOne number now flight) (slice_get a.all.items e.place) (slice_get b.all.items e.place) e.ends in
        let its : it.1.0 ≡ y = same_Some it.1.0 y (sym it.1.1.1.0 ∙ ap (slice_get b.all.items) (sym same) ∙ at) in
        (it.0, (ap (slice_get a.all.items) same ∙ it.1.1.0, Ends number flight (subst (HostEndsOne number now flight it.0) its it.1.1.1.1)))
    | inr other ↦
        let it = found_before (HostGoesOn now) (slice_get a.all.items k) (slice_get b.all.items k) y (e.others k other) at in (it.0, (it.1.0, Goes it.1.1))
  ]

  comes_by : (queue : ℕ) → h ≡ Came queue → (m : Bool) → may ≡ m → OneComesIf m queue now counts a b → Changed k now may counts h a y
  comes_by queue told false is same = same_by same
  comes_by queue told true is c = elim (cases_eq k c.place) [
    | inl same ↦
        let it = found_one (HostComesOne now counts) (slice_get a.all.items c.place) (slice_get b.all.items c.place) c.comes in
        let its : it.1.0 ≡ y = same_Some it.1.0 y (sym it.1.1.1.0 ∙ ap (slice_get b.all.items) (sym same) ∙ at) in
        let own : queue ≡ k + 1 = c.queue ∙ ap (λ (n : ℕ). n + 1) (sym same) in
        (it.0, (ap (slice_get a.all.items) same ∙ it.1.1.0, ComesHere (told ∙ ap Came own) is (subst (HostComesOne now counts it.0) its it.1.1.1.1)))
    | inr other ↦
        let it = found_before (HostGoesOn now) (slice_get a.all.items k) (slice_get b.all.items k) y (c.others k other) at in (it.0, (it.1.0, Goes it.1.1))
  ]

changed : (k now : ℕ) (may counts : Bool) (h : Happening) (a b : Hosts) (y : Host) → slice_get b.all.items k ≡ Some y → Passes may counts now a b h → Changed k now may counts h a y
changed k now may counts (Came queue) a b y at p = comes_by k now may counts (Came queue) a b y at queue refl may refl p
changed k now may counts (Finished command counted) a b y at p = ends_by k now may counts (Finished command counted) a b y at command.queue command.number p.flight p.ends
changed k now may counts Over a b y at p = same_by k now may counts Over a b y at p.0
changed k now may counts (Picked p) a b y at g = goes_by k now may counts (Picked p) a b y at g
changed k now may counts Settled a b y at g = goes_by k now may counts Settled a b y at g
changed k now may counts (Paused channel) a b y at g = goes_by k now may counts (Paused channel) a b y at g
changed k now may counts (Resumed channel) a b y at g = goes_by k now may counts (Resumed channel) a b y at g

same_arrivals : (x y : Host) → asking_of y ≡ asking_of x → y.arrivals ≡ x.arrivals
same_arrivals x y same = ap (λ (a : Asking). a.load.arrivals) same

none_more : (k now : ℕ) (may counts : Bool) (h : Happening) (x y : Host) → Changes k now may counts h x y → (h ≡ Came (k + 1) → may ≡ true → ⊥) → came_in y.flights ≤ came_in x.flights
none_more k now may counts h x y (Goes g) none = goes_no_more now x.flights y.flights g.flights
none_more k now may counts h x y (Ends number flight e) none = ends_no_more number now flight x.flights y.flights e.flights
none_more k now may counts h x y (ComesHere told is c) none = absurd (none told is)

-- ---- what is to come
-- the first event was one of those to come
popped_pending : (qid : ℕ) (a b : Simulation) (what : Event) (c : Comes a b what) (rest : Held Event) → rest ≡ rest_of (events_of a.machine.agenda) c.first c.others
    → arrives qid what + pending qid rest ≡ pending qid (events_of a.machine.agenda)
popped_pending qid a b what c rest is =
    let split = sum_by-cons (λ (e : Timed Event). arrives qid e.what) c.first c.others in
    let all : pending qid (events_of a.machine.agenda) ≡ sum_by (λ (e : Timed Event). arrives qid e.what) (c.first ∷ c.others) =
    ap (λ (es : List (Timed Event)). sum_by (λ (e : Timed Event). arrives qid e.what) es) c.events in
    let left : pending qid rest ≡ sum_by (λ (e : Timed Event). arrives qid e.what) c.others = ap (pending qid) is in
    omega (arith, split, all, left, ap (arrives qid) c.is)

never_closed : (hosts : Hosts) (k : ℕ) (z : Host) (list : Replay) → slice_get hosts.all.items k ≡ Some z → z.arrivals ≡ ByList list → closed_in hosts (k + 1) ≡ false
never_closed hosts k z list at lists =
    ap (λ (o : Option Host). unwrap_or (option_map is_closed o) false) (host_at hosts k ∙ at) ∙ ap (λ (x : Arrivals). nat_lt 0 (at_start x)) lists

own_closed : (k queue : ℕ) (list : Replay) (hosts : Hosts) (z : Host) (more : Bool) → slice_get hosts.all.items k ≡ Some z → z.arrivals ≡ ByList list
    → (closed_in hosts queue && more) ≡ true → queue ≢ k + 1
own_closed k queue list hosts z more at lists is same =
    let closed : closed_in hosts (k + 1) ≡ true = ap (closed_in hosts) (sym same) ∙ (both (closed_in hosts queue) more is).0 in
    true≢false (sym closed ∙ never_closed hosts k z list at lists)

-- a step in which none of a queue comes plans none of it, where it has a list
module _ (k : ℕ) (list : Replay) (a b : Simulation) (x : Host) (at : slice_get (hosts_of a).all.items k ≡ Some x) (lists : x.arrivals ≡ ByList list) where
  other_came : (queue : ℕ) (s : HasStepped a b (Came queue)) → (queue ≡ k + 1 → may_come_to a (time_of b) ≡ true → ⊥)
      → pending (k + 1) (events_of b.machine.agenda) ≤ pending (k + 1) (events_of a.machine.agenda)
  other_came queue s other =
      let c = comes a b (Came queue) (event.Arrival queue) s refl in
      let rest = popped_pending (k + 1) a b (event.Arrival queue) c (events_of s.plans.rest) (rest_is a b (event.Arrival queue) c s.plans.rest s.plans.is) in
      by (may_come_to a (time_of b)) refl s.plans.plans rest
    where
      by : (may : Bool) → may_come_to a (time_of b) ≡ may → ArrivalPlans may queue (counts_next a) (may_come_to b (time_of b)) (record a.machine { agenda = s.plans.rest }) b.machine
          → arrives (k + 1) (event.Arrival queue) + pending (k + 1) (events_of s.plans.rest) ≡ pending (k + 1) (events_of a.machine.agenda)
          → pending (k + 1) (events_of b.machine.agenda) ≤ pending (k + 1) (events_of a.machine.agenda)
      by false is same rest = let e = ap (λ (m : Machine). pending (k + 1) (events_of m.agenda)) same in omega (arith, e, rest)
      by true is plans rest =
          let e = pending_if (may_come_to b (time_of b) && goes_on plans.came queue) (k + 1) queue (time_in s.plans.rest) (record (record a.machine { agenda = s.plans.rest }) { hosts = plans.came })
          plans.followed plans.plans (λ goes same. other same is) in
          omega (arith, e, rest, ap (pending (k + 1)) plans.events)

  ended : (command : Told) (counted : Bool) (s : HasStepped a b (Finished command counted))
      → pending (k + 1) (events_of b.machine.agenda) ≤ pending (k + 1) (events_of a.machine.agenda)
  ended command counted s =
      let e = s.plans.plans in
      let what : Event = event.End command.channel in
      let c = comes a b (Finished command counted) what s refl in
      let rest = popped_pending (k + 1) a b what c (events_of s.plans.rest) (rest_is a b what c s.plans.rest s.plans.is) in
      let started = pending_end (k + 1) e.ends.started (events_of s.plans.rest) (events_of e.ended.agenda) e.ends.plans in
      let z = host_ends e.done in
      let thought = pending_if (closed_in e.ended.hosts command.queue && may_come_to b (time_of b)) (k + 1) command.queue (time_of b) e.ended e.thought e.thinks
      (own_closed k command.queue list e.ended.hosts z.0 (may_come_to b (time_of b)) z.1.0 (z.1.1 ∙ lists)) in
      omega (arith, rest, started, thought, ap (pending (k + 1)) e.events)
    where
      host_ends : {qid number now : ℕ} {flight : Flight} {hosts : Hosts} → OneEnds qid number now flight a.machine.hosts hosts
          → (z : Host) × ((slice_get hosts.all.items k ≡ Some z) × (z.arrivals ≡ x.arrivals))
      host_ends {qid} {number} {now} {flight} {hosts} e = elim (cases_eq k e.place) [
        | inl same ↦
            let it = found_one (HostEndsOne number now flight) (slice_get a.machine.hosts.all.items e.place) (slice_get hosts.all.items e.place) e.ends in
            let its : it.0 ≡ x = same_Some it.0 x (sym it.1.1.0 ∙ ap (slice_get a.machine.hosts.all.items) (sym same) ∙ at) in
            (it.1.0, (ap (slice_get hosts.all.items) same ∙ it.1.1.1.0, same_arrivals it.0 it.1.0 it.1.1.1.1.asking ∙ ap (λ (h : Host). h.arrivals) its))
        | inr other ↦
            let it = found_after (HostGoesOn now) (slice_get a.machine.hosts.all.items k) (slice_get hosts.all.items k) x (e.others k other) at in
            (it.0, (it.1.0, same_arrivals x it.0 it.1.1.asking))
      ]

  paused : (channel : ℕ) (s : HasStepped a b (Paused channel)) → pending (k + 1) (events_of b.machine.agenda) ≤ pending (k + 1) (events_of a.machine.agenda)
  paused channel s =
      let what : Event = event.Pause channel in
      let c = comes a b (Paused channel) what s refl in
      let rest = popped_pending (k + 1) a b what c (events_of s.plans.rest) (rest_is a b what c s.plans.rest s.plans.is) in
      let p = s.plans.plans in
      let more = pending_pushed (k + 1) (time_in s.plans.rest + p.pauses.length) (event.Resume channel) (events_of s.plans.rest) in
      omega (arith, rest, more, ap (pending (k + 1)) p.does.plans)

  resumed : (channel : ℕ) (s : HasStepped a b (Resumed channel)) → pending (k + 1) (events_of b.machine.agenda) ≤ pending (k + 1) (events_of a.machine.agenda)
  resumed channel s =
      let what : Event = event.Resume channel in
      let c = comes a b (Resumed channel) what s refl in
      let rest = popped_pending (k + 1) a b what c (events_of s.plans.rest) (rest_is a b what c s.plans.rest s.plans.is) in
      let g = s.plans.plans in
      let started = pending_end (k + 1) g.goes.started (events_of s.plans.rest) (events_of g.resumed.agenda) g.goes.plans in
      let next = paused_next b.pauses (is_over b) (events_of g.resumed.agenda) (events_of b.machine.agenda) g.next in
      omega (arith, rest, started, next)
    where
      paused_next : (pauses : Option Pauses) (over : Bool) (h i : Held Event) → NextPause pauses over channel (time_of b) h i → pending (k + 1) i ≡ pending (k + 1) h
      paused_next None over h i same = ap (pending (k + 1)) same
      paused_next (Some p) true h i same = ap (pending (k + 1)) same
      paused_next (Some p) false h i is =
          let more = pending_pushed (k + 1) (time_of b + (p.every - p.length)) (event.Pause channel) h in omega (arith, ap (pending (k + 1)) is, more)

  none_planned : (h : Happening) → HasStepped a b h → (h ≡ Came (k + 1) → may_come_to a (time_of b) ≡ true → ⊥)
      → pending (k + 1) (events_of b.machine.agenda) ≤ pending (k + 1) (events_of a.machine.agenda)
  none_planned (Came queue) s other = other_came queue s (λ same. other (ap Came same))
  none_planned (Finished command counted) s other = ended command counted s
  none_planned (Paused channel) s other = paused channel s
  none_planned (Resumed channel) s other = resumed channel s
  none_planned Settled s other = let e = ap (λ (m : Machine). pending (k + 1) (events_of m.agenda)) s.plans in omega (arith, e)
  none_planned (Picked p) s other =
      let takes = pending_takes (k + 1) p.pick.n p.pick.qid (record a.machine { front = s.plans.front }) s.plans.taken s.plans.takes in
      omega (arith, takes, ap (λ (g : Agenda). pending (k + 1) (events_of g)) s.plans.reads.agenda)
  none_planned Over s other = by (picks_of a) refl s.next
    where
      first : (es : List (Timed Event)) → (events_of a.machine.agenda).events ≡ es → IsFirst (first_of (events_of a.machine.agenda) es) (events_of b.machine.agenda) Over
          → pending (k + 1) (events_of b.machine.agenda) ≤ pending (k + 1) (events_of a.machine.agenda)
      first [] is it = omega (arith, ap (pending (k + 1)) it.1)
      first (e ∷ es) is it = absurd (cc it.0)

      by : (q : Bool) → picks_of a ≡ q → IsNext q (events_of a.machine.agenda) (events_of b.machine.agenda) Over
          → pending (k + 1) (events_of b.machine.agenda) ≤ pending (k + 1) (events_of a.machine.agenda)
      by true is it = absurd it.0
      by false is it = first (events_of a.machine.agenda).events refl it

-- one of a queue comes only where it was to come
came_pending : (k : ℕ) (a b : Simulation) → (s : HasStepped a b (Came (k + 1)))
    → 1 + pending (k + 1) (events_of s.plans.rest) ≡ pending (k + 1) (events_of a.machine.agenda)
came_pending k a b s =
    let what : Event = event.Arrival (k + 1) in
    let c = comes a b (Came (k + 1)) what s refl in
    let rest = popped_pending (k + 1) a b what c (events_of s.plans.rest) (rest_is a b what c s.plans.rest s.plans.is) in
    omega (arith, rest, own_arrives k)

-- ---- steps
serves_by : (queues : List Queue) (k now : ℕ) (may counts : Bool) (h : Happening) (events later : Held Event) (x y : Host) → Changes k now may counts h x y
    → (old : Serves queues k events x) → ((list : Replay) → old.queue.arrivals ≡ ByList list → Awaits (k + 1) (length list.requests.items) y.flights later)
    → (h ≡ Came (k + 1) → may ≡ true → Within (next_in x.flights) old.queue.arrivals) → Serves queues k later y
serves_by queues k now may counts h events later x y (Goes g) old awaits within = record {
  queue = old.queue;
  at = old.at;
  asks = subst (AsksAs old.queue) (sym g.asking) old.asks;
  short = goes_short (longest_of queues) now x.flights y.flights g.flights old.short;
  awaits = awaits;
}
serves_by queues k now may counts h events later x y (Ends number flight e) old awaits within = record {
  queue = old.queue;
  at = old.at;
  asks = subst (AsksAs old.queue) (sym e.asking) old.asks;
  short = ends_short (longest_of queues) number now flight x.flights y.flights e.flights old.short;
  awaits = awaits;
}
serves_by queues k now may counts h events later x y (ComesHere told is c) old awaits within =
    let l : k < length queues = slice_get_within queues k old.queue old.at in
    let there : Contains queues old.queue = (k, l, get_or_from_slice_get queues k old.queue old.queue old.at) in
    record {
      queue = old.queue;
      at = old.at;
      asks = drawn_asks (next_in x.flights) old.queue (asking_of x) (asking_of y) c.request c.draws old.asks;
      short = comes_short (longest_of queues) now c.request x.flights y.flights c.flights
          (draws_short queues old.queue (next_in x.flights) (asking_of x) (asking_of y) c.request there old.asks (within told is) c.draws) old.short;
      awaits = awaits;
    }

changes_arrivals : (k now : ℕ) (may counts : Bool) (h : Happening) (x y : Host) → Changes k now may counts h x y → y.arrivals ≡ x.arrivals
changes_arrivals k now may counts h x y (Goes g) = same_arrivals x y g.asking
changes_arrivals k now may counts h x y (Ends number flight e) = same_arrivals x y e.asking
changes_arrivals k now may counts h x y (ComesHere told is c) = c.draws.same.arrivals

-- no more are to come of a list than it has
module _ (k : ℕ) (list : Replay) (a b : Simulation) (x y : Host) (at_x : slice_get (hosts_of a).all.items k ≡ Some x) (at_y : slice_get (hosts_of b).all.items k ≡ Some y)
    (lists : x.arrivals ≡ ByList list) (old : Awaits (k + 1) (length list.requests.items) x.flights (events_of a.machine.agenda)) where
  awaits_other : (h : Happening) → HasStepped a b h → Changes k (time_of b) (may_come_to a (time_of b)) (counts_next a) h x y
      → (h ≡ Came (k + 1) → may_come_to a (time_of b) ≡ true → ⊥) → Awaits (k + 1) (length list.requests.items) y.flights (events_of b.machine.agenda)
  awaits_other h s c other =
      awaits_less (k + 1) (length list.requests.items) x.flights y.flights (events_of a.machine.agenda) (events_of b.machine.agenda) (none_planned k list a b x at_x lists h s other)
      (none_more k (time_of b) (may_come_to a (time_of b)) (counts_next a) h x y c other) old

  awaits_own : HasStepped a b (Came (k + 1)) → y.arrivals ≡ x.arrivals → may_come_to a (time_of b) ≡ true
      → Awaits (k + 1) (length list.requests.items) y.flights (events_of b.machine.agenda)
  awaits_own s same is =
      let rest = came_pending k a b s in
      let none : pending (k + 1) (events_of s.plans.rest) ≡ 0 = omega (arith, rest, old.few) in
      awaits_next k list (counts_next a) (may_come_to b (time_of b)) (record a.machine { agenda = s.plans.rest }) b.machine y
      (subst (λ (m : Bool). ArrivalPlans m (k + 1) (counts_next a) (may_come_to b (time_of b)) (record a.machine { agenda = s.plans.rest }) b.machine) is s.plans.plans) none at_y
      (same ∙ lists)

  awaits_step : (h : Happening) → HasStepped a b h → Changes k (time_of b) (may_come_to a (time_of b)) (counts_next a) h x y
      → Awaits (k + 1) (length list.requests.items) y.flights (events_of b.machine.agenda)
  awaits_step (Came queue) s c = elim (cases_eq queue (k + 1)) [
    | inl same ↦
        elim (cases_Bool (may_come_to a (time_of b))) [
          | inl is ↦
              awaits_own (subst (λ (n : ℕ). HasStepped a b (Came n)) same s)
              (changes_arrivals k (time_of b) (may_come_to a (time_of b)) (counts_next a) (Came queue) x y c) is
          | inr not ↦ awaits_other (Came queue) s c (λ told is. true≢false (sym is ∙ not))
        ]
    | inr other ↦ awaits_other (Came queue) s c (λ told is. other (cc told))
  ]
  awaits_step (Finished command counted) s c = awaits_other (Finished command counted) s c (λ told is. cc told)
  awaits_step (Picked p) s c = awaits_other (Picked p) s c (λ told is. cc told)
  awaits_step Settled s c = awaits_other Settled s c (λ told is. cc told)
  awaits_step (Paused channel) s c = awaits_other (Paused channel) s c (λ told is. cc told)
  awaits_step (Resumed channel) s c = awaits_other (Resumed channel) s c (λ told is. cc told)
  awaits_step Over s c = awaits_other Over s c (λ told is. cc told)

serves_step : (queues : List Queue) (a b : Simulation) (h : Happening) → HasStepped a b h → AllServe queues a → AllServe queues b
serves_step queues a b h s serve k = by (slice_get (hosts_of b).all.items k) refl
  where
    from : (y : Host) → slice_get (hosts_of b).all.items k ≡ Some y → Changed k (time_of b) (may_come_to a (time_of b)) (counts_next a) h (hosts_of a) y
        → Serves queues k (events_of b.machine.agenda) y
    from y at_y (x, (at_x, c)) =
        let old : Serves queues k (events_of a.machine.agenda) x = subst (λ (o : Option Host). IfSome o (Serves queues k (events_of a.machine.agenda))) at_x (serve k) in
        serves_by queues k (time_of b) (may_come_to a (time_of b)) (counts_next a) h (events_of a.machine.agenda) (events_of b.machine.agenda) x y c old
        (λ list lists. awaits_step k list a b x y at_x at_y (old.asks.arrivals ∙ lists) (old.awaits list lists) h s c)
        (λ told is list lists.
        let rest = came_pending k a b (subst (λ (g : Happening). HasStepped a b g) told s) in (old.awaits list lists).more (omega (arith, rest)))

    by : (o : Option Host) → slice_get (hosts_of b).all.items k ≡ o → IfSome o (Serves queues k (events_of b.machine.agenda))
    by None is = tt
    by (Some y) is =
        from y is (changed k (time_of b) (may_come_to a (time_of b)) (counts_next a) h (hosts_of a) (hosts_of b) y is s.passes)

-- ---- runs
unused_short : (longest : ℕ) (h : Host) → IsUnused h → RunsAtMost longest h
unused_short longest h u n = by (nat_lt n h.flights.first) (slice_get h.flights.kept.items (n - h.flights.first)) (u.none n)
  where
    by : (b : Bool) (o : Option Flight) → cond b (Some Done) (option_map (λ (x : Flight). x.stage) o) ≡ None → Short longest (cond b None o)
    by true o e = tt
    by false None e = tt
    by false (Some f) e = absurd (cc e)

serves_new : (model : Model) (s : Simulation) → IsNewOf model s → AllServe model.queues.items s
serves_new model s new k = by (slice_get (hosts_of s).all.items k) refl
  where
    of : (h : Host) (o : Option Queue) → slice_get (hosts_of s).all.items k ≡ Some h → slice_get model.queues.items k ≡ o → Some (load_of h) ≡ option_map load_in o
        → Serves model.queues.items k (events_of s.machine.agenda) h
    of h None at none e = absurd (cc e)
    of h (Some q) at is e =
        let load : load_of h ≡ load_in q = same_Some (load_of h) (load_in q) e in
        let here : get_or (hosts_of s).all.items k h ≡ h = get_or_from_slice_get (hosts_of s).all.items k h h at in
        let unused : IsUnused h = subst IsUnused here (new.hosts.none k h (slice_get_within (hosts_of s).all.items k h at)) in
        record {
          queue = q;
          at = is;
          asks = record {
            arrivals = ap (λ (l : Load). l.arrivals) load;
            mix = ap (λ (l : Load). l.mix) load;
            services = ap (λ (l : Load). l.services) load;
            extent = ap (λ (l : Load). l.places.extent) load;
          };
          short = unused_short (longest_of model.queues.items) h unused;
          awaits = λ list lists.
              let first = awaits_first (length model.queues.items) k list new.begins.hosts (hosts_of s) new.begins.events h new.begins.queues
              (slice_get_within model.queues.items k q is) at (ap (λ (l : Load). l.arrivals) load ∙ lists) in
              let same = pending_begin (k + 1) model.device.channels model.device.pauses new.begins.events (events_of s.machine.agenda) new.begins.pauses in
              awaits_less (k + 1) (length list.requests.items) h.flights h.flights new.begins.events (events_of s.machine.agenda) (omega (arith, same)) (omega arith) first;
        }

    by : (o : Option Host) → slice_get (hosts_of s).all.items k ≡ o → IfSome o (Serves model.queues.items k (events_of s.machine.agenda))
    by None is = tt
    by (Some h) is =
        of h (slice_get model.queues.items k) is refl
        (sym (slice_get-map load_of (hosts_of s).all.items k ∙ ap (option_map load_of) is) ∙ ap (λ (ls : List Load). slice_get ls k) new.hosts.loads ∙ slice_get-map load_in model.queues.items k)

serves_goes : (queues : List Queue) (first s : Simulation) (past : List Moment) → AllServe queues first → IsRun first past s → AllServe queues s
unfolding IsRun
serves_goes queues first s [] serve same = subst (AllServe queues) (sym same) serve
serves_goes queues first s (m ∷ past) serve goes =
    subst (AllServe queues) goes.0 (serves_step queues m.before m.after m.told goes.1.0 (serves_goes queues first m.before past serve goes.1.1))

all_short : (queues : List Queue) (s : Simulation) → AllServe queues s → AllRunAtMost (longest_of queues) (hosts_of s)
all_short queues s serve k = by (slice_get (hosts_of s).all.items k) (serve k)
  where
    by : (o : Option Host) → IfSome o (Serves queues k (events_of s.machine.agenda)) → IfSome o (RunsAtMost (longest_of queues))
    by None is = tt
    by (Some h) is = is.short

pub none_runs_longer : NoneRunsLonger
none_runs_longer model first s past new run =
    all_short model.queues.items s (serves_goes model.queues.items first s past (serves_new model first new) run)
