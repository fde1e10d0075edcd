-- What a step makes of the device and of the ends that are planned.
use Rattle.std.proofs.Common.{◌≡◌, ◌≢◌, ◌∙◌, ◌≤◌, ◌<◌, ◌&&◌, ℕ, ◌+◌, Bool, true, false, List, [], ◌∷◌, ◌++◌, Option, Some, None, refl, sym, ap, subst, arith}
use Rattle.nvme_bounds.specs.Refills.{taken_behind}
use Rattle.nvme_channels.specs.declared.placement.Placement.TheVariants.{Pool}
use Rattle.nvme_channels.specs.Devices.{Device, channel_at, new_device, room_of}
use Rattle.nvme_channels.specs.Runs.{Step, Finish, Resume, device_behind}
use Rattle.nvme_channels.specs.Steps.{finish_of, resume_of}
use Rattle.nvme_clock.specs.Held.{Held, first_of, popped}
use Rattle.nvme_clock.specs.declared.events.Event.{Event as Timed}
use Rattle.nvme_model.specs.declared.device.Pauses.{Pauses}
use Rattle.nvme_simulation.specs.Devices.{device_in}
use Rattle.nvme_simulation.specs.Following.{PlansIf, closed_in}
use Rattle.nvme_simulation.specs.Pausing.{NextPause, is_over}
use Rattle.nvme_simulation.specs.Planning.{ArrivalPlans, EndPlans}
use Rattle.nvme_simulation.specs.Plans.{Follows, IsFirst, IsNext, IsOfPicks, cause, events_of}
use Rattle.nvme_simulation.specs.Simulations.{counts_next, hosts_of, may_come_to, picks_of, time_of}
use Rattle.nvme_simulation.specs.Stepping.{HasStepped}
use Rattle.nvme_simulation.specs.declared.agenda.Agenda.{Agenda}
use Rattle.nvme_simulation.specs.declared.agenda.Event.{Event}
use Rattle.nvme_simulation.specs.declared.agenda.Event.TheVariants.{Arrival, End, Resume as ResumeEvent}
use Rattle.nvme_simulation.specs.declared.channels.Runs.{Runs}
use Rattle.nvme_simulation.specs.declared.happening.Happening.{Happening}
use Rattle.nvme_simulation.specs.declared.happening.Happening.TheVariants.{Came, Picked, Settled, Finished, Paused, Resumed, Over}
use Rattle.nvme_simulation.specs.declared.machine.Machine.{Machine}
use Rattle.nvme_simulation.specs.declared.simulation.Simulation.{Simulation}
use Rattle.nvme_simulation.proofs.Plans.{follows_time}
use Rattle.nvme_simulation.proofs.Rooms.{finish_room, resume_room}
use Rattle.nvme_waits_of_runs.specs.Waits.{AllRunAtMost}
use Rattle.nvme_waits_of_runs.proofs.Calls.{ArePlanned, IsPlanned, call_plans, finish_runs, resume_runs}
use Rattle.nvme_waits_of_runs.proofs.Ends.{EndIn, end_follows, end_pushed, end_rest}
use Rattle.nvme_waits_of_runs.proofs.Tracks.{Tracks, no_more, one_more, take_all}

-- how many commands a step tells picked
abbrev pub commands_in : Happening → ℕ
commands_in (Picked p) = p.pick.n
commands_in h = 0

-- ---- the first event comes
abbrev pub rest_of : Held Event → Timed Event → List (Timed Event) → Held Event
rest_of h e es = record { time = e.at; next = h.next; events = es }

pub record Comes (before after : Simulation) (what : Event) : Type 0 where
  pub picks : picks_of before ≡ false
  pub first : Timed Event
  pub others : List (Timed Event)
  pub events : (events_of before.machine.agenda).events ≡ first ∷ others
  pub is : first.what ≡ what
  pub follows : Follows (rest_of (events_of before.machine.agenda) first others) (events_of after.machine.agenda)

of_picks : (h : Happening) (what : Event) → IsOfPicks h → cause h ≡ Some what → ⊥
of_picks (Picked p) what is tells = cc tells
of_picks Settled what is tells = cc tells
of_picks (Came queue) what is tells = is
of_picks (Finished command counts) what is tells = is
of_picks (Paused channel) what is tells = is
of_picks (Resumed channel) what is tells = is
of_picks Over what is tells = is

over_cause : (h : Happening) (what : Event) → h ≡ Over → cause h ≡ Some what → ⊥
over_cause h what is tells = let none : cause h ≡ None = ap cause is in cc (none, tells)

pub comes : (a b : Simulation) (h : Happening) (what : Event) → HasStepped a b h → cause h ≡ Some what → Comes a b what
comes a b h what s tells = by (picks_of a) refl s.next
  where
    first : picks_of a ≡ false → (es : List (Timed Event)) → (events_of a.machine.agenda).events ≡ es → IsFirst (first_of (events_of a.machine.agenda) es) (events_of b.machine.agenda) h
        → Comes a b what
    first picks [] is it = absurd (over_cause h what it.0 tells)
    first picks (e ∷ es) is it = record { picks = picks; first = e; others = es; events = is; is = cc (it.0, tells); follows = it.1 }

    by : (p : Bool) → picks_of a ≡ p → IsNext p (events_of a.machine.agenda) (events_of b.machine.agenda) h → Comes a b what
    by true is it = absurd (of_picks h what it.0 tells)
    by false is it = first is (events_of a.machine.agenda).events refl it

pub comes_time : (a b : Simulation) (what : Event) (c : Comes a b what) → time_of b ≡ c.first.at
comes_time a b what c = follows_time (rest_of (events_of a.machine.agenda) c.first c.others) (events_of b.machine.agenda) c.follows

-- what was planned before it
pub left_in : (a b : Simulation) (what : Event) (c : Comes a b what) (k at : ℕ) → (what ≡ End k → ⊥) → EndIn k at (events_of a.machine.agenda).events → EndIn k at c.others
left_in a b what c k at other some = end_rest k at c.first c.others (λ e. other (sym c.is ∙ e)) (subst (EndIn k at) c.events some)

pub rest_is : (a b : Simulation) (what : Event) (c : Comes a b what) (g : Agenda) → events_of g ≡ (popped (events_of a.machine.agenda)).1
    → events_of g ≡ rest_of (events_of a.machine.agenda) c.first c.others
rest_is a b what c g is = is ∙ ap (λ (es : List (Timed Event)). (first_of (events_of a.machine.agenda) es).1) c.events

-- ---- a step
-- how many commands more a step may make room for
abbrev pub room_made : Happening → ℕ
room_made (Finished command counts) = 1
room_made h = 0

pub record Stepped (depth count longest : ℕ) (before : Device) (b : Simulation) (h : Happening) (calls : List Step) : Type 0 where
  pub later : List Step
  pub tracks : Tracks depth count longest (device_in b.machine.device) (events_of b.machine.agenda) (later ++ calls)
  pub taken : taken_behind (new_device Pool depth count) calls later ≡ commands_in h
  pub room : room_of (device_in b.machine.device) ≤ room_of before + room_made h

-- one that leaves the device
same_device : (depth count longest : ℕ) (a b : Simulation) (h : Happening) (calls : List Step) → Tracks depth count longest (device_in a.machine.device) (events_of a.machine.agenda) calls
    → time_of a ≤ time_of b → b.machine.device ≡ a.machine.device → IsPlanned (device_in a.machine.device) (events_of b.machine.agenda) → commands_in h ≡ 0
    → Stepped depth count longest (device_in a.machine.device) b h calls
unfolding taken_behind
same_device depth count longest a b h calls t later same planned none = record {
  later = [];
  tracks = no_more depth count longest (device_in a.machine.device) (device_in b.machine.device) (events_of a.machine.agenda) (events_of b.machine.agenda) calls t later (ap device_in same)
      (subst (λ (r : Runs). IsPlanned (device_in r) (events_of b.machine.agenda)) (sym same) planned);
  taken = sym none;
  room = let r = ap (λ (r : Runs). room_of (device_in r)) same in omega (arith, r);
}

-- so an event that is no end
other_event : (depth count longest : ℕ) (a b : Simulation) (h : Happening) (what : Event) (calls : List Step) → Tracks depth count longest (device_in a.machine.device) (events_of a.machine.agenda) calls
    → HasStepped a b h → cause h ≡ Some what → ((k : ℕ) → what ≡ End k → ⊥) → b.machine.device ≡ a.machine.device → commands_in h ≡ 0 → Stepped depth count longest (device_in a.machine.device) b h calls
other_event depth count longest a b h what calls t s tells other same none =
    let c = comes a b h what s tells in
    same_device depth count longest a b h calls t s.forward same
    (λ k on. end_follows k (channel_at (device_in a.machine.device) k).ends (rest_of (events_of a.machine.agenda) c.first c.others) (events_of b.machine.agenda) c.follows
    (left_in a b what c k (channel_at (device_in a.machine.device) k).ends (other k) (t.planned k on))) none

came_device : (may : Bool) (queue : ℕ) (counts more : Bool) (a b : Machine) → ArrivalPlans may queue counts more a b → b.device ≡ a.device
came_device true queue counts more a b plans = plans.device
came_device false queue counts more a b same = ap (λ (m : Machine). m.device) same

-- the next command of a closed host is planned
thinks_on : (goes : Bool) (qid time k at : ℕ) (a b : Machine) → PlansIf goes qid time a b → EndIn k at (events_of a.agenda).events → EndIn k at (events_of b.agenda).events
thinks_on true qid time k at a b plans some =
    subst (λ (h : Held Event). EndIn k at h.events) (sym plans.planned) (end_pushed k at plans.at (Arrival qid) (events_of a.agenda) some)
thinks_on false qid time k at a b same some = subst (λ (m : Machine). EndIn k at (events_of m.agenda).events) (sym same) some

ends_step : (depth count longest channel queue number : ℕ) (a b : Simulation) (h : Happening) (rest : Agenda) (calls : List Step) → Tracks depth count longest (device_in a.machine.device) (events_of a.machine.agenda) calls
    → HasStepped a b h → cause h ≡ Some (End channel) → events_of rest ≡ (popped (events_of a.machine.agenda)).1
    → EndPlans channel queue number (record a.machine { agenda = rest }) b → commands_in h ≡ 0 → room_made h ≡ 1 → Stepped depth count longest (device_in a.machine.device) b h calls
unfolding taken_behind
ends_step depth count longest channel queue number a b h rest calls t s tells popping e none one =
    let c = comes a b h (End channel) s tells in
    let d : Device = device_in a.machine.device in
    let now : ℕ = (events_of rest).time in
    let is = rest_is a b (End channel) c rest popping in
    let at : now ≡ time_of b = ap (λ (g : Held Event). g.time) is ∙ sym (comes_time a b (End channel) c) in
    let before : ArePlanned (λ k. k ≢ channel) d (events_of rest) =
    λ k other on. subst (λ (g : Held Event). EndIn k (channel_at d k).ends g.events) (sym is)
    (left_in a b (End channel) c k (channel_at d k).ends (λ (same : End channel ≡ End k). other (cc same)) (t.planned k on)) in
    let ended : IsPlanned (finish_of now channel d).1 (events_of e.ended.agenda) =
    call_plans (λ k. k ≢ channel) d (finish_of now channel d) e.ends.started (events_of rest) (events_of e.ended.agenda) (finish_runs now channel d) e.ends.answers e.ends.plans before in
    let planned : IsPlanned (device_behind (Finish now channel) d) (events_of b.machine.agenda) =
    λ k on. subst (λ (g : Held Event). EndIn k (channel_at (finish_of now channel d).1 k).ends g.events) (sym e.events)
    (thinks_on (closed_in e.ended.hosts queue && may_come_to b (time_of b)) queue (time_of b) k (channel_at (finish_of now channel d).1 k).ends e.ended e.thought e.thinks (ended k on)) in
    let device : device_in b.machine.device ≡ (finish_of now channel d).1 = ap device_in e.device ∙ e.ends.device in
    record {
      later = Finish now channel ∷ [];
      tracks = subst (λ (x : Device). Tracks depth count longest x (events_of b.machine.agenda) (Finish now channel ∷ calls)) (sym device)
          (one_more depth count longest d (events_of a.machine.agenda) (events_of b.machine.agenda) calls (Finish now channel) t s.forward (omega (arith, at)) tt tt planned);
      taken = sym none;
      room = let r = ap room_of device in let more = finish_room now channel d in omega (arith, r, more, one);
    }

no_pause : (pauses : Option Pauses) (over : Bool) (channel now : ℕ) (a b : Held Event) → pauses ≡ None → NextPause pauses over channel now a b → b ≡ a
no_pause None over channel now a b none next = next
no_pause (Some p) over channel now a b none next = absurd (cc none)

pub step_tracks : (depth count longest : ℕ) (a b : Simulation) (h : Happening) (calls : List Step) → 0 < count → a.pauses ≡ None → HasStepped a b h
    → Tracks depth count longest (device_in a.machine.device) (events_of a.machine.agenda) calls → AllRunAtMost longest (hosts_of a) → Stepped depth count longest (device_in a.machine.device) b h calls
unfolding taken_behind
step_tracks depth count longest a b (Came queue) calls some none s t short =
    other_event depth count longest a b (Came queue) (Arrival queue) calls t s refl (λ k same. cc same) (came_device (may_come_to a (time_of b)) queue (counts_next a) (may_come_to b (time_of b)) (record a.machine { agenda = s.plans.rest }) b.machine s.plans.plans) refl
step_tracks depth count longest a b (Finished command counts) calls some none s t short =
    ends_step depth count longest command.channel command.queue command.number a b (Finished command counts) s.plans.rest calls t s refl s.plans.is s.plans.plans refl refl
step_tracks depth count longest a b (Paused channel) calls some none s t short =
    absurd (let has : a.pauses ≡ Some s.plans.plans.pauses = s.plans.plans.are in cc (none, has))
step_tracks depth count longest a b (Resumed channel) calls some none s t short =
    let c = comes a b (Resumed channel) (ResumeEvent channel) s refl in
    let rest = s.plans.rest in
    let g = s.plans.plans in
    let d : Device = device_in a.machine.device in
    let now : ℕ = (events_of rest).time in
    let is = rest_is a b (ResumeEvent channel) c rest s.plans.is in
    let at : now ≡ time_of b = ap (λ (x : Held Event). x.time) is ∙ sym (comes_time a b (ResumeEvent channel) c) in
    let before : ArePlanned (λ k. Unit {0}) d (events_of rest) =
    λ k any on. subst (λ (x : Held Event). EndIn k (channel_at d k).ends x.events) (sym is)
    (left_in a b (ResumeEvent channel) c k (channel_at d k).ends (λ (same : ResumeEvent channel ≡ End k). cc same) (t.planned k on)) in
    let resumed : IsPlanned (resume_of now channel d).1 (events_of g.resumed.agenda) =
    call_plans (λ k. Unit {0}) d (resume_of now channel d) g.goes.started (events_of rest) (events_of g.resumed.agenda) (resume_runs now channel d) g.goes.answers g.goes.plans before in
    let after_none : b.pauses ≡ None = s.same.pauses ∙ none in
    let events : events_of b.machine.agenda ≡ events_of g.resumed.agenda = no_pause b.pauses (is_over b) channel (time_of b) (events_of g.resumed.agenda) (events_of b.machine.agenda) after_none g.next in
    let planned : IsPlanned (device_behind (Resume now channel) d) (events_of b.machine.agenda) =
    subst (λ (x : Held Event). IsPlanned (resume_of now channel d).1 x) (sym events) resumed in
    let device : device_in b.machine.device ≡ (resume_of now channel d).1 = ap device_in g.device ∙ g.goes.device in
    record {
      later = Resume now channel ∷ [];
      tracks = subst (λ (x : Device). Tracks depth count longest x (events_of b.machine.agenda) (Resume now channel ∷ calls)) (sym device)
          (one_more depth count longest d (events_of a.machine.agenda) (events_of b.machine.agenda) calls (Resume now channel) t s.forward (omega (arith, at)) tt tt planned);
      taken = refl;
      room = let r = ap room_of device in let same = resume_room now channel d in omega (arith, r, same);
    }
step_tracks depth count longest a b (Picked p) calls some none s t short =
    let it = s.plans in
    let took = take_all depth count longest p.pick.n p.pick.qid (record a.machine { front = it.front }) it.taken calls some t short it.takes in
    record {
      later = took.later;
      tracks = subst (λ (r : Runs). Tracks depth count longest (device_in r) (events_of b.machine.agenda) (took.later ++ calls)) (sym it.reads.device)
          (subst (λ (g : Agenda). Tracks depth count longest (device_in it.taken.device) (events_of g) (took.later ++ calls)) (sym it.reads.agenda) took.tracks);
      taken = took.taken;
      room = let r = ap (λ (r : Runs). room_of (device_in r)) it.reads.device in omega (arith, r, took.room);
    }
step_tracks depth count longest a b Settled calls some none s t short =
    same_device depth count longest a b Settled calls t s.forward (ap (λ (m : Machine). m.device) s.plans)
    (subst (λ (g : Agenda). IsPlanned (device_in a.machine.device) (events_of g)) (sym (ap (λ (m : Machine). m.agenda) s.plans)) t.planned) refl
step_tracks depth count longest a b Over calls some none s t short =
    same_device depth count longest a b Over calls t s.forward (ap (λ (m : Machine). m.device) s.plans) (over_plans (picks_of a) refl s.next) refl
  where
    first : (es : List (Timed Event)) → (events_of a.machine.agenda).events ≡ es → IsFirst (first_of (events_of a.machine.agenda) es) (events_of b.machine.agenda) Over
        → IsPlanned (device_in a.machine.device) (events_of b.machine.agenda)
    first [] is it = subst (λ (x : Held Event). IsPlanned (device_in a.machine.device) x) (sym it.1) t.planned
    first (e ∷ es) is it = absurd (cc it.0)

    over_plans : (q : Bool) → picks_of a ≡ q → IsNext q (events_of a.machine.agenda) (events_of b.machine.agenda) Over → IsPlanned (device_in a.machine.device) (events_of b.machine.agenda)
    over_plans true is it = absurd it.0
    over_plans false is it = first (events_of a.machine.agenda).events refl it
