-- The commands of lists that are to come: one of a queue at most, and only one that its list has.
use Rattle.std.proofs.Common.{◌≡◌, ◌≢◌, ◌∙◌, ◌≤◌, ◌<◌, ◌⊎◌, ◌&&◌, ℕ, zero, suc, ◌+◌, ◌-◌, ◌*◌, ◌/◌, ◌==◌, Bool, true, false, not, nat_le, nat_lt, cond, List, [], ◌∷◌, length, sum_by, Option, Some, None, option_map, unwrap_or, inl, inr, refl, sym, ap, subst, arith}
use Rattle.std.specs.Prelude.{slice_get}
use Rattle.std.proofs.lemmas.Bool.{cases_eq, cases_lt, eq-eqb, ne_eqb}
use Rattle.std.proofs.lemmas.Bool.Decides.{nat_tests}
use Rattle.std.proofs.lemmas.Option.{same_Some, slice_get_past}
use Rattle.nvme_clock.specs.Events.{comes_before}
use Rattle.nvme_clock.specs.Held.{Held, nothing, pushed}
use Rattle.nvme_clock.specs.declared.events.Event.{Event as Timed}
use Rattle.nvme_load.specs.Arrivals.{at_start, ends_at}
use Rattle.nvme_load.specs.declared.arrivals.Arrivals.{Arrivals}
use Rattle.nvme_load.specs.declared.arrivals.Arrivals.TheVariants.{Replay as ByList}
use Rattle.nvme_load.specs.declared.replay.Replay.{Replay}
use Rattle.nvme_model.specs.declared.device.Pauses.{Pauses}
use Rattle.nvme_simulation.specs.Asking.{Asking}
use Rattle.nvme_simulation.specs.First.{BeginsPauses, BeginsQueues, PlansFirstIf, starting}
use Rattle.nvme_simulation.specs.Following.{ComesAndFollows, DrawsNext, PlansIf, follows, goes_on, host_of, is_closed}
use Rattle.nvme_simulation.specs.Marks.{flight_at}
use Rattle.nvme_simulation.specs.Plans.{arrivals_at, events_of, first_pauses, planned}
use Rattle.nvme_simulation.specs.Progress.{Becomes, Between, BetweenOne, EndsOne, GoOn, HostGoesOn}
use Rattle.nvme_simulation.specs.Stages.{came_in, next_in, stage_at}
use Rattle.nvme_simulation.specs.Starts.{PlansEnd}
use Rattle.nvme_simulation.specs.Taking.{TakesAll}
use Rattle.nvme_simulation.specs.declared.agenda.Event.{Event}
use Rattle.nvme_simulation.specs.declared.agenda.Event.TheVariants.{Arrival, End, Pause}
use Rattle.nvme_simulation.specs.declared.flight.Flight.{Flight}
use Rattle.nvme_simulation.specs.declared.flight.Flights.{Flights}
use Rattle.nvme_simulation.specs.declared.flight.Stage.{Stage}
use Rattle.nvme_simulation.specs.declared.flight.Stage.TheVariants.{Done}
use Rattle.nvme_simulation.specs.declared.host.Host.{Host}
use Rattle.nvme_simulation.specs.declared.hosts.Hosts.{Hosts}
use Rattle.nvme_simulation.specs.declared.machine.Machine.{Machine}
use Rattle.nvme_simulation.proofs.Plans.{sum_inserted}

-- ---- events
-- how many commands of a queue an event is, and how many of them are to come
abbrev pub arrives : (qid : ℕ) → Event → ℕ
arrives qid (Arrival queue) = cond (queue == qid) 1 0
arrives qid event = 0

abbrev pub pending : (qid : ℕ) → Held Event → ℕ
pending qid h = sum_by (λ (e : Timed Event). arrives qid e.what) h.events

pub own_arrives : (k : ℕ) → arrives (k + 1) (Arrival (k + 1)) ≡ 1
own_arrives k = ap (λ (t : Bool). cond t 1 0) (eq-eqb (k + 1) (k + 1) refl)

pub pending_pushed : (qid at : ℕ) (what : Event) (h : Held Event) → pending qid (pushed at what h) ≡ arrives qid what + pending qid h
pending_pushed qid at what h = sum_inserted (λ (e : Timed Event). arrives qid e.what) comes_before (record { at = at; number = h.next; what = what }) h.events

pub pending_end : (qid : ℕ) (started : _) (a b : Held Event) → PlansEnd started a b → pending qid b ≡ pending qid a
pending_end qid None a b same = ap (pending qid) same
pending_end qid (Some s) a b is = let more = pending_pushed qid s.ends (End s.channel) a in omega (arith, ap (pending qid) is, more)

pub pending_takes : (qid n queue : ℕ) (a b : Machine) → TakesAll n queue a b → pending qid (events_of b.agenda) ≡ pending qid (events_of a.agenda)
unfolding TakesAll
pending_takes qid zero queue a b same = ap (λ (m : Machine). pending qid (events_of m.agenda)) same
pending_takes qid (suc n) queue a b takes =
    pending_end qid takes.1.1.started (events_of takes.0.agenda) (events_of b.agenda) takes.1.1.plans ∙ pending_takes qid n queue a takes.0 takes.1.0

-- the next command of another queue is planned, if one is
pub pending_if : (goes : Bool) (qid queue time : ℕ) (a b : Machine) → PlansIf goes queue time a b → (goes ≡ true → queue ≢ qid)
    → pending qid (events_of b.agenda) ≡ pending qid (events_of a.agenda)
pending_if true qid queue time a b plans other =
    let more = pending_pushed qid plans.at (Arrival queue) (events_of a.agenda) in
    let none : arrives qid (Arrival queue) ≡ 0 = ap (λ (t : Bool). cond t 1 0) (ne_eqb queue qid (other refl)) in
    omega (arith, ap (pending qid) plans.planned, more, none)
pending_if false qid queue time a b same other = ap (λ (m : Machine). pending qid (events_of m.agenda)) same

-- ---- commands
-- nothing is found only behind the end
pub past_end : {X : Type 0} (xs : List X) (i : ℕ) → slice_get xs i ≡ None → length xs ≤ i
past_end [] i none = omega arith
past_end (x ∷ xs) zero none = absurd (cc none)
past_end (x ∷ xs) (suc i) none = let l = past_end xs i none in omega (arith, l)

-- a command that came is done or kept
there : (f : Flights) (n : ℕ) → n < came_in f → (stage_at f n ≡ Some Done) ⊎ ((g : Flight) × (flight_at f n ≡ Some g))
there f n l = by (nat_lt n f.first) refl
  where
    by : (b : Bool) → nat_lt n f.first ≡ b
        → (cond b (Some Done) (option_map (λ (x : Flight). x.stage) (slice_get f.kept.items (n - f.first))) ≡ Some Done)
        ⊎ ((g : Flight) × (cond b None (slice_get f.kept.items (n - f.first)) ≡ Some g))
    by true is = inl refl
    by false is = inr (at (slice_get f.kept.items (n - f.first)) refl)
      where
        at : (o : Option Flight) → slice_get f.kept.items (n - f.first) ≡ o → (g : Flight) × (o ≡ Some g)
        at None none = absurd (let from : f.first ≤ n = grind (arith, nat_tests, is) in let past = past_end f.kept.items (n - f.first) none in omega (arith, l, from, past))
        at (Some g) some = (g, refl)

not_there : (f : Flights) (n : ℕ) → came_in f ≤ n → (flight_at f n ≡ None) × (stage_at f n ≡ None)
not_there f n l =
    let past : slice_get f.kept.items (n - f.first) ≡ None = slice_get_past f.kept.items (n - f.first) (omega (arith, l)) in
    let later : nat_lt n f.first ≡ false = grind (arith, nat_tests, l) in
    (rw later past, rw later (ap (option_map (λ (x : Flight). x.stage)) past))

no_stage : (s : Stage) → None ≡ Some s → ⊥
no_stage s e = cc e

-- no command of this number comes, nor one behind it
no_more : (now n : ℕ) (a b : Flights) → came_in a ≤ n → (stage_at b n ≡ Some Done → stage_at a n ≡ Some Done) → Becomes now (flight_at a n) (flight_at b n) → came_in b ≤ n
no_more now n a b l done becomes = elim (cases_lt n (came_in b)) [
  | inl less ↦ absurd (neither (there b n less))
  | inr more ↦ more
]
  where
    neither : (stage_at b n ≡ Some Done) ⊎ ((g : Flight) × (flight_at b n ≡ Some g)) → ⊥
    neither (inl is) = no_stage Done (sym (not_there a n l).1 ∙ done is)
    neither (inr (g, is)) =
        subst (λ (o : Option Flight). Becomes now o (Some g)) (not_there a n l).0 (subst (λ (o : Option Flight). Becomes now (flight_at a n) o) is becomes)

pub goes_no_more : (now : ℕ) (a b : Flights) → GoOn now a b → came_in b ≤ came_in a
goes_no_more now a b g = no_more now (came_in a) a b (omega arith) (g.done (came_in a)) (g.times (came_in a))

pub ends_no_more : (number now : ℕ) (flight : Flight) (a b : Flights) → EndsOne number now flight a b → came_in b ≤ came_in a
ends_no_more number now flight a b e = no_more now (came_in a) a b (omega arith) (e.others (came_in a) other) (e.times (came_in a) other)
  where
    other : came_in a ≢ number
    other is = let none = (not_there a (came_in a) (omega arith)).0 in let found = ap (flight_at a) is ∙ e.found in cc (none, found)

-- ---- hosts
pub found_one : (R : Host → Host → Type 0) (o p : Option Host) → BetweenOne R o p → (x : Host) × ((y : Host) × ((o ≡ Some x) × ((p ≡ Some y) × R x y)))
found_one R None p r = absurd r
found_one R (Some x) None r = absurd r
found_one R (Some x) (Some y) r = (x, (y, (refl, (refl, r))))

pub found_before : (R : Host → Host → Type 0) (o p : Option Host) (y : Host) → Between R o p → p ≡ Some y → (x : Host) × ((o ≡ Some x) × R x y)
found_before R o None y r is = absurd (cc is)
found_before R None (Some w) y r is = absurd r
found_before R (Some x) (Some w) y r is = (x, (refl, subst (R x) (same_Some w y is) r))

pub both : (a b : Bool) → (a && b) ≡ true → (a ≡ true) × (b ≡ true)
both true b is = (refl, is)
both false b is = absurd (cc is)

no_not : (b : Bool) → not b ≡ true → b ≡ false
no_not false is = refl
no_not true is = absurd (cc is)

-- the host of a queue
pub host_at : (hosts : Hosts) (k : ℕ) → host_of hosts (k + 1) ≡ slice_get hosts.all.items k
host_at hosts k =
    let some : nat_lt 0 (k + 1) ≡ true = grind (arith, nat_tests) in
    let same : k + 1 - 1 ≡ k = omega arith in
    rw some (ap (slice_get hosts.all.items) same)

-- where one is to come behind those that came, its list has it
goes_within : (hosts : Hosts) (k : ℕ) (z : Host) (list : Replay) → slice_get hosts.all.items k ≡ Some z → z.arrivals ≡ ByList list → goes_on hosts (k + 1) ≡ true
    → next_in z.flights < length list.requests.items
goes_within hosts k z list at lists goes =
    let follows_is : follows z ≡ true = sym (ap (λ (o : Option Host). unwrap_or (option_map follows o) false) (host_at hosts k ∙ at)) ∙ goes in
    let goes_not : ends_at z.arrivals (next_in z.flights) ≡ false = no_not (ends_at z.arrivals (next_in z.flights)) (both (not (is_closed z)) (not (ends_at z.arrivals (next_in z.flights))) follows_is).1 in
    let more : nat_le (length list.requests.items) (next_in z.flights) ≡ false = sym (ap (λ (x : Arrivals). ends_at x (next_in z.flights)) lists) ∙ goes_not in
    grind (arith, nat_tests, more)

-- at most one command of a queue is to come, and only where its list has one more
pub record Awaits (qid count : ℕ) (f : Flights) (h : Held Event) : Type 0 where
  pub few : pending qid h ≤ 1
  pub more : 1 ≤ pending qid h → next_in f < count

pub awaits_less : (qid count : ℕ) (f g : Flights) (h i : Held Event) → pending qid i ≤ pending qid h → came_in g ≤ came_in f → Awaits qid count f h → Awaits qid count g i
awaits_less qid count f g h i less behind a = record {
  few = omega (arith, less, a.few);
  more = λ some. let l = a.more (omega (arith, some, less)) in omega (arith, l, behind);
}

-- one of a queue that comes is the only one that was planned, and the next one of its list is planned behind it, if there is one
pub awaits_next : (k : ℕ) (list : Replay) (counts more : Bool) (a b : Machine) (y : Host) → ComesAndFollows (k + 1) counts more a b → pending (k + 1) (events_of a.agenda) ≡ 0
    → slice_get b.hosts.all.items k ≡ Some y → y.arrivals ≡ ByList list → Awaits (k + 1) (length list.requests.items) y.flights (events_of b.agenda)
awaits_next k list counts more a b y c none at lists = by (more && goes_on c.came (k + 1)) refl c.plans
  where
    own : {A B : ℕ} → A + 1 ≡ B + 1 → B ≡ A
    own e = omega (arith, e)

    by : (goes : Bool) → (more && goes_on c.came (k + 1)) ≡ goes → PlansIf goes (k + 1) (events_of a.agenda).time (record a { hosts = c.came }) c.followed
        → Awaits (k + 1) (length list.requests.items) y.flights (events_of b.agenda)
    by false is same =
        let zero : pending (k + 1) (events_of b.agenda) ≡ 0 = ap (pending (k + 1)) c.events ∙ ap (λ (m : Machine). pending (k + 1) (events_of m.agenda)) same ∙ none in
        record { few = omega (arith, zero); more = λ some. absurd (omega (arith, zero, some)) }
    by true is plans =
        let place : plans.next.place ≡ k = own plans.next.queue in
        let drawn =
        found_one (DrawsNext (events_of a.agenda).time (Some plans.at)) (slice_get c.came.all.items plans.next.place) (slice_get c.followed.hosts.all.items plans.next.place)
        plans.next.draws in
        let last = found_before (HostGoesOn (events_of a.agenda).time) (slice_get c.followed.hosts.all.items k) (slice_get b.hosts.all.items k) y (c.goes.each k) at in
        let w : Host = last.0 in
        let same : drawn.1.0 ≡ w = same_Some drawn.1.0 w (sym drawn.1.1.1.0 ∙ ap (slice_get c.followed.hosts.all.items) place ∙ last.1.0) in
        let z : Host = drawn.0 in
        let came : slice_get c.came.all.items k ≡ Some z = ap (slice_get c.came.all.items) (sym place) ∙ drawn.1.1.0 in
        let flights : w.flights ≡ z.flights = ap (λ (h : Host). h.flights) (sym same ∙ drawn.1.1.1.1.rest) in
        let arrivals : z.arrivals ≡ ByList list =
        ap (λ (h : Host). h.arrivals) (sym drawn.1.1.1.1.rest ∙ same) ∙ sym (ap (λ (x : Asking). x.load.arrivals) last.1.1.asking) ∙ lists in
        let within = goes_within c.came k z list came arrivals (both more (goes_on c.came (k + 1)) is).1 in
        let behind = goes_no_more (events_of a.agenda).time w.flights y.flights last.1.1.flights in
        let upto : came_in w.flights ≡ came_in z.flights = ap came_in flights in
        let one = pending_pushed (k + 1) plans.at (Arrival (k + 1)) (events_of a.agenda) in
        let planned : pending (k + 1) (events_of b.agenda) ≡ pending (k + 1) (pushed plans.at (Arrival (k + 1)) (events_of a.agenda)) =
        ap (pending (k + 1)) (c.events ∙ plans.planned) in
        record { few = omega (arith, planned, one, none, own_arrives k); more = λ some. omega (arith, within, behind, upto) }

-- ---- the first events
pending_arrivals : (qid queue n : ℕ) (h : Held Event) → queue ≢ qid → pending qid (planned (arrivals_at 0 queue n) h) ≡ pending qid h
unfolding planned arrivals_at
pending_arrivals qid queue zero h other = refl
pending_arrivals qid queue (suc n) h other =
    let rest = pending_arrivals qid queue n h other in
    let more = pending_pushed qid 0 (Arrival queue) (planned (arrivals_at 0 queue n) h) in
    let none : arrives qid (Arrival queue) ≡ 0 = ap (λ (t : Bool). cond t 1 0) (ne_eqb queue qid other) in
    omega (arith, rest, more, none)

pending_first : (goes : Bool) (qid queue : ℕ) (a b : Hosts) (h i : Held Event) → queue ≢ qid → PlansFirstIf goes queue a b h i → pending qid i ≡ pending qid h
pending_first true qid queue a b h i other plans =
    let more = pending_pushed qid plans.at (Arrival queue) h in
    let none : arrives qid (Arrival queue) ≡ 0 = ap (λ (t : Bool). cond t 1 0) (ne_eqb queue qid other) in
    omega (arith, ap (pending qid) plans.planned_is, more, none)
pending_first false qid queue a b h i other same = ap (pending qid) same.1

pending_pauses : (qid every count n : ℕ) (h : Held Event) → pending qid (planned (first_pauses every count n) h) ≡ pending qid h
unfolding planned first_pauses
pending_pauses qid every count zero h = refl
pending_pauses qid every count (suc n) h =
    let rest = pending_pauses qid every count n h in
    let more = pending_pushed qid (every * (n + 1) / count) (Pause n) (planned (first_pauses every count n) h) in
    omega (arith, rest, more)

pub pending_begin : (qid channels : ℕ) (pauses : Option Pauses) (h i : Held Event) → BeginsPauses pauses channels h i → pending qid i ≡ pending qid h
pending_begin qid channels None h i same = ap (pending qid) same
pending_begin qid channels (Some p) h i is = ap (pending qid) is ∙ pending_pauses qid p.every channels channels h

-- none of a queue whose turn hasn't come
none_yet : (n k : ℕ) (a b : Hosts) (i : Held Event) → BeginsQueues n a b nothing i → n ≤ k → pending (k + 1) i ≡ 0
unfolding BeginsQueues
none_yet zero k a b i begins l = ap (pending (k + 1)) begins.1
none_yet (suc n) k a b i begins l =
    let hosts = begins.0 in
    let events = begins.1.0 in
    let other : n + 1 ≢ k + 1 = λ e. absurd (omega (arith, e, l)) in
    pending_first (goes_on hosts (n + 1)) (k + 1) (n + 1) hosts b (planned (arrivals_at 0 (n + 1) (starting hosts (n + 1))) events) i other begins.1.1.1
    ∙ pending_arrivals (k + 1) (n + 1) (starting hosts (n + 1)) events other ∙ none_yet n k a hosts events begins.1.1.0 (omega (arith, l))

-- the host of another queue stays
first_other : (goes : Bool) (n k : ℕ) (a b : Hosts) (h i : Held Event) → k ≢ n → PlansFirstIf goes (n + 1) a b h i → slice_get b.all.items k ≡ slice_get a.all.items k
first_other true n k a b h i other plans = plans.next.others k (λ e. other (let same = plans.next.queue in omega (arith, e, same)))
first_other false n k a b h i other same = ap (λ (hs : Hosts). slice_get hs.all.items k) same.0

first_own : (goes : Bool) (k : ℕ) (list : Replay) (a b : Hosts) (h i : Held Event) (x : Host) → goes_on a (k + 1) ≡ goes → PlansFirstIf goes (k + 1) a b h i → pending (k + 1) h ≡ 0
    → slice_get b.all.items k ≡ Some x → x.arrivals ≡ ByList list → Awaits (k + 1) (length list.requests.items) x.flights i
first_own false k list a b h i x is same none at lists =
    let zero : pending (k + 1) i ≡ 0 = ap (pending (k + 1)) same.1 ∙ none in
    record { few = omega (arith, zero); more = λ some. absurd (omega (arith, zero, some)) }
first_own true k list a b h i x is plans none at lists =
    let place : plans.next.place ≡ k = let e = plans.next.queue in omega (arith, e) in
    let drawn = found_one (DrawsNext 0 (Some plans.at)) (slice_get a.all.items plans.next.place) (slice_get b.all.items plans.next.place) plans.next.draws in
    let z : Host = drawn.0 in
    let same : drawn.1.0 ≡ x = same_Some drawn.1.0 x (sym drawn.1.1.1.0 ∙ ap (slice_get b.all.items) place ∙ at) in
    let before : slice_get a.all.items k ≡ Some z = ap (slice_get a.all.items) (sym place) ∙ drawn.1.1.0 in
    let its : x ≡ record z { streams = record z.streams { arrivals = drawn.1.0.streams.arrivals } } = sym same ∙ drawn.1.1.1.1.rest in
    let arrivals : z.arrivals ≡ ByList list = sym (ap (λ (y : Host). y.arrivals) its) ∙ lists in
    let within = goes_within a k z list before arrivals is in
    let upto : next_in x.flights ≡ next_in z.flights = ap (λ (y : Host). next_in y.flights) its in
    let one = pending_pushed (k + 1) plans.at (Arrival (k + 1)) h in
    let planned : pending (k + 1) i ≡ pending (k + 1) (pushed plans.at (Arrival (k + 1)) h) = ap (pending (k + 1)) plans.planned_is in
    record { few = omega (arith, planned, one, none, own_arrives k); more = λ some. omega (arith, within, upto) }

-- none of a list comes at time 0 at once
start_of : (hosts : Hosts) (k : ℕ) (z : Host) (list : Replay) → slice_get hosts.all.items k ≡ Some z → z.arrivals ≡ ByList list → starting hosts (k + 1) ≡ 0
start_of hosts k z list at lists =
    ap (λ (o : Option Host). unwrap_or (option_map (λ (h : Host). at_start h.arrivals) o) 0) (host_at hosts k ∙ at) ∙ ap at_start lists

none_at_once : (goes : Bool) (k : ℕ) (list : Replay) (a b : Hosts) (h i : Held Event) (x : Host) → PlansFirstIf goes (k + 1) a b h i → slice_get b.all.items k ≡ Some x
    → x.arrivals ≡ ByList list → starting a (k + 1) ≡ 0
none_at_once true k list a b h i x plans at lists =
    let place : plans.next.place ≡ k = let e = plans.next.queue in omega (arith, e) in
    let drawn = found_one (DrawsNext 0 (Some plans.at)) (slice_get a.all.items plans.next.place) (slice_get b.all.items plans.next.place) plans.next.draws in
    let z : Host = drawn.0 in
    let same : drawn.1.0 ≡ x = same_Some drawn.1.0 x (sym drawn.1.1.1.0 ∙ ap (slice_get b.all.items) place ∙ at) in
    let before : slice_get a.all.items k ≡ Some z = ap (slice_get a.all.items) (sym place) ∙ drawn.1.1.0 in
    let arrivals : z.arrivals ≡ ByList list = ap (λ (y : Host). y.arrivals) (sym drawn.1.1.1.1.rest ∙ same) ∙ lists in
    start_of a k z list before arrivals
none_at_once false k list a b h i x same at lists = start_of a k x list (sym (ap (λ (hs : Hosts). slice_get hs.all.items k) same.0) ∙ at) lists

pub awaits_first : (n k : ℕ) (list : Replay) (a b : Hosts) (i : Held Event) (x : Host) → BeginsQueues n a b nothing i → k < n → slice_get b.all.items k ≡ Some x → x.arrivals ≡ ByList list
    → Awaits (k + 1) (length list.requests.items) x.flights i
unfolding BeginsQueues planned arrivals_at
awaits_first zero k list a b i x begins l at lists = absurd (omega (arith, l))
awaits_first (suc n) k list a b i x begins l at lists =
    let hosts = begins.0 in
    let events = begins.1.0 in
    elim (cases_eq k n) [
      | inl same ↦
          subst (λ (m : ℕ). Awaits (m + 1) (length list.requests.items) x.flights i) (sym same)
          (let here : slice_get b.all.items n ≡ Some x = ap (slice_get b.all.items) (sym same) ∙ at in
          let none : starting hosts (n + 1) ≡ 0 =
          none_at_once (goes_on hosts (n + 1)) n list hosts b (planned (arrivals_at 0 (n + 1) (starting hosts (n + 1))) events) i x begins.1.1.1 here lists in
          let plain : planned (arrivals_at 0 (n + 1) (starting hosts (n + 1))) events ≡ events = ap (λ (m : ℕ). planned (arrivals_at 0 (n + 1) m) events) none in
          first_own (goes_on hosts (n + 1)) n list hosts b events i x refl
          (subst (λ (h : Held Event). PlansFirstIf (goes_on hosts (n + 1)) (n + 1) hosts b h i) plain begins.1.1.1)
          (none_yet n n a hosts events begins.1.1.0 (omega arith)) here lists)
      | inr other ↦
          let apart : n + 1 ≢ k + 1 = λ e. other (let same : k ≡ n = omega (arith, e) in same) in
          let before : slice_get hosts.all.items k ≡ Some x =
          sym (first_other (goes_on hosts (n + 1)) n k hosts b (planned (arrivals_at 0 (n + 1) (starting hosts (n + 1))) events) i other begins.1.1.1) ∙ at in
          let same : pending (k + 1) i ≡ pending (k + 1) events =
          pending_first (goes_on hosts (n + 1)) (k + 1) (n + 1) hosts b (planned (arrivals_at 0 (n + 1) (starting hosts (n + 1))) events) i apart begins.1.1.1
          ∙ pending_arrivals (k + 1) (n + 1) (starting hosts (n + 1)) events apart in
          awaits_less (k + 1) (length list.requests.items) x.flights x.flights events i (omega (arith, same)) (omega arith)
          (awaits_first n k list a hosts events x begins.1.1.0 (omega (arith, l, other)) before lists)
    ]
