-- What a step leaves, and what comes of an event.
use Rattle.std.proofs.Common.{◌≡◌, ◌∙◌, ◌<◌, ℕ, ◌+◌, ◌-◌, ◌*◌, ◌&&◌, ◌==◌, not, Bool, true, false, cond, nat_lt, Option, Some, None, Result, Ok, Err, option_map, refl, sym, ap, subst, arith}
use Rattle.std.proofs.lemmas.Bool.Decides.{nat_tests}
use Rattle.nvme_clock.specs.Held.{Held, pushed}
use Rattle.nvme_clock.specs.declared.events.Event.{Event as Timed}
use Rattle.nvme_log.specs.Rules.{FrontRules}
use Rattle.nvme_ctrl_log.specs.Notes.{Notes}
use Rattle.std.specs.Prelude.{OnOk}
use Rattle.nvme_model.specs.declared.device.Pauses.{Pauses}
use Rattle.nvme_model.specs.declared.model.End.{End}
use Rattle.nvme_occupancy.specs.Occupancies.{Comes}
use Rattle.nvme_occupancy.specs.declared.occupancy.Occupancy.{Occupancy}
use Rattle.nvme_simulation.specs.Counts.{ComesIf, may_come}
use Rattle.nvme_simulation.specs.Devices.{device_in}
use Rattle.nvme_simulation.specs.Following.{ComesAndFollows, PlansIf, closed_in}
use Rattle.nvme_simulation.specs.Fronts.{IsFront}
use Rattle.nvme_simulation.specs.Handling.{Stays}
use Rattle.nvme_simulation.specs.Machines.{Goes, Works}
use Rattle.nvme_simulation.specs.Passing.{OneComesIf}
use Rattle.nvme_simulation.specs.Pausing.{GoesOn, GoesOnFor, NextPause, at_end, is_over}
use Rattle.nvme_simulation.specs.Picks.{IsLawful}
use Rattle.nvme_simulation.specs.Planning.{ArrivalPlans}
use Rattle.nvme_simulation.specs.Plans.{Follows, IsFirst, cause, events_of, picks_behind}
use Rattle.nvme_simulation.specs.Progress.{OneComes}
use Rattle.nvme_simulation.specs.Simulations.{IsSameModel, IsSimulation, counts_next, hosts_of, may_come_to, time_of}
use Rattle.nvme_simulation.specs.Steps.{cost_with, steps_left}
use Rattle.nvme_simulation.specs.Times.{now_of}
use Rattle.nvme_simulation.specs.declared.agenda.Event.{Event}
use Rattle.nvme_simulation.specs.declared.agenda.Event.TheVariants.{Pause}
use Rattle.nvme_simulation.specs.declared.happening.Happening.{Happening}
use Rattle.nvme_simulation.specs.declared.happening.Happening.TheVariants.{Came, Picked, Settled, Finished, Paused, Resumed, Over}
use Rattle.nvme_simulation.specs.declared.hosts.Hosts.{Hosts}
use Rattle.nvme_simulation.specs.declared.machine.Machine.{Machine}
use Rattle.nvme_simulation.specs.declared.simulation.Simulation.{Simulation}
use Rattle.nvme_simulation.proofs.Machines.{goes_self, works, works_then, works_time}
use Rattle.nvme_simulation.proofs.Quiet.{stays_front}
use Rattle.nvme_simulation.proofs.Rooms.{device_then}

works_self : (m : Machine) → IsFront m.front → Works m m
works_self m is = works m m (goes_self m is)

pub stays_self : (s : Simulation) → IsFront s.machine.front → Stays s s
stays_self s is = record { works = works_self s.machine is; rest = refl }

pub stays_machine : (a : Simulation) (m : Machine) → Works a.machine m → Stays a (record a { machine = m })
stays_machine a m w = record { works = w; rest = refl }

pub stays_occupancy : (a b : Simulation) → IsFront a.machine.front → b ≡ record a { occupancy = b.occupancy } → Stays a b
stays_occupancy a b is e =
    let same : b.machine ≡ a.machine = ap (λ (s : Simulation). s.machine) e in
    record {
      works = subst (λ (m : Machine). Works a.machine m) (sym same) (works_self a.machine is);
      rest = e ∙ ap (λ (m : Machine). record a { machine = m; occupancy = b.occupancy }) (sym same);
    }

pub stays_goes : (a b : Simulation) → Goes a.machine b.machine → b ≡ record a { machine = b.machine } → Stays a b
stays_goes a b g e = record {
  works = works a.machine b.machine g;
  rest = e ∙ ap (λ (o : Occupancy). record a { machine = b.machine; occupancy = o }) (sym (ap (λ (s : Simulation). s.occupancy) e));
}

pub stays_then : (a b c : Simulation) → Stays a b → Stays b c → Stays a c
stays_then a b c first second = record {
  works = works_then a.machine b.machine c.machine first.works second.works;
  rest = second.rest ∙ ap (λ (s : Simulation). record s { machine = c.machine; occupancy = c.occupancy }) first.rest;
}

pub stays_time : (a b : Simulation) → Stays a b → time_of b ≡ time_of a
stays_time a b s = works_time a.machine b.machine s.works

-- what is left of its steps
pub left_behind : (a b : Simulation) → Stays a b
    → steps_left b ≡ cost_with b.machine + cond a.picks 1 0 + 9 * (a.end.commands - b.occupancy.came) + 7 * (b.occupancy.came - b.occupancy.left)
left_behind a b s = ap steps_left s.rest

-- so the command that comes
pub comes_if : (a b : Simulation) (x : Machine) (qid : ℕ) (counts : Bool) → x ≡ a.machine → counts ≡ counts_next a → time_of b ≡ time_of a
    → may_come a.end (time_of a) a.occupancy ≡ true → OneComes qid (now_of x.agenda) counts x.hosts (hosts_of b)
    → OneComesIf (may_come_to a (time_of b)) qid (time_of b) (counts_next a) (hosts_of a) (hosts_of b)
comes_if a b x qid counts machine counted same may one =
    let may_then : may_come_to a (time_of b) ≡ true = ap (λ (t : ℕ). may_come_to a t) same ∙ may in
    let first : OneComes qid (time_of a) counts (hosts_of a) (hosts_of b) =
    subst (λ (m : Machine). OneComes qid (now_of m.agenda) counts m.hosts (hosts_of b)) machine one in
    let second : OneComes qid (time_of b) counts (hosts_of a) (hosts_of b) = subst (λ (t : ℕ). OneComes qid t counts (hosts_of a) (hosts_of b)) (sym same) first in
    let third : OneComes qid (time_of b) (counts_next a) (hosts_of a) (hosts_of b) =
    subst (λ (y : Bool). OneComes qid (time_of b) y (hosts_of a) (hosts_of b)) counted second in
    subst (λ (y : Bool). OneComesIf y qid (time_of b) (counts_next a) (hosts_of a) (hosts_of b)) (sym may_then) third

-- and what is planned
pub arrival_plans : (a b : Simulation) (x : Machine) (qid : ℕ) (counts more : Bool) → x ≡ a.machine → counts ≡ counts_next a → time_of b ≡ time_of a
    → may_come a.end (time_of a) a.occupancy ≡ true → more ≡ may_come_to b (time_of b) → ComesAndFollows qid counts more x b.machine
    → ArrivalPlans (may_come_to a (time_of b)) qid (counts_next a) (may_come_to b (time_of b)) a.machine b.machine
arrival_plans a b x qid counts more machine counted same may goes one =
    let may_then : may_come_to a (time_of b) ≡ true = ap (λ (t : ℕ). may_come_to a t) same ∙ may in
    let first : ComesAndFollows qid counts more a.machine b.machine = subst (λ (m : Machine). ComesAndFollows qid counts more m b.machine) machine one in
    let second : ComesAndFollows qid (counts_next a) more a.machine b.machine = subst (λ (y : Bool). ComesAndFollows qid y more a.machine b.machine) counted first in
    let third : ComesAndFollows qid (counts_next a) (may_come_to b (time_of b)) a.machine b.machine =
    subst (λ (y : Bool). ComesAndFollows qid (counts_next a) y a.machine b.machine) goes second in
    subst (λ (y : Bool). ArrivalPlans y qid (counts_next a) (may_come_to b (time_of b)) a.machine b.machine) (sym may_then) third

-- a closed host thinks: the simulations before and after it have the same end and occupancy
pub thinks_at : (told thought b : Simulation) (x : Machine) (qid : ℕ) → told.machine ≡ x → thought ≡ record told { machine = thought.machine } → time_of b ≡ time_of told
    → b ≡ record thought { machine = b.machine }
    → PlansIf (closed_in told.machine.hosts qid && may_come_to told (time_of told)) qid (time_of told) told.machine thought.machine
    → PlansIf (closed_in x.hosts qid && may_come_to b (time_of b)) qid (time_of b) x thought.machine
thinks_at told thought b x qid machine rest same last plans =
    let may : may_come_to told (time_of told) ≡ may_come_to b (time_of b) =
    ap (may_come_to told) (sym same)
    ∙ ap (λ (s : Simulation). may_come s.end (time_of b) s.occupancy) (sym rest)
    ∙ ap (λ (s : Simulation). may_come s.end (time_of b) s.occupancy) (sym last) in
    let first : PlansIf (closed_in x.hosts qid && may_come_to told (time_of told)) qid (time_of told) x thought.machine =
    subst (λ (m : Machine). PlansIf (closed_in m.hosts qid && may_come_to told (time_of told)) qid (time_of told) m thought.machine) machine plans in
    let second : PlansIf (closed_in x.hosts qid && may_come_to b (time_of b)) qid (time_of told) x thought.machine =
    subst (λ (y : Bool). PlansIf (closed_in x.hosts qid && y) qid (time_of told) x thought.machine) may first in
    subst (λ (t : ℕ). PlansIf (closed_in x.hosts qid && may_come_to b (time_of b)) qid t x thought.machine) (sym same) second

-- the next pause of a channel
pub next_none : (pauses : Option Pauses) (over : Bool) (channel now : ℕ) (h : Held Event) → pauses ≡ None → NextPause pauses over channel now h h
next_none pauses over channel now h none = subst (λ (o : Option Pauses). NextPause o over channel now h h) (sym none) refl

pub next_over : (pauses : Option Pauses) (over : Bool) (channel now : ℕ) (h : Held Event) → over ≡ true → NextPause pauses over channel now h h
next_over None over channel now h is = refl
next_over (Some p) over channel now h is = subst (λ (b : Bool). NextPause (Some p) b channel now h h) (sym is) refl

pub next_pause : {E : Type 0} (pauses : Option Pauses) (over : Bool) (p : Pauses) (channel now t : ℕ) (a b : Held Event) (r : Result Unit E) → pauses ≡ Some p
    → over ≡ false → t ≡ now → OnOk r (b ≡ pushed (t + (p.every - p.length)) (Pause channel) a) → OnOk r (NextPause pauses over channel now a b)
next_pause pauses over p channel now t a b (Err e) some goes time plans = tt
next_pause pauses over p channel now t a b (Ok x) some goes time plans =
    rw (some, goes) (plans ∙ ap (λ (v : ℕ). pushed (v + (p.every - p.length)) (Pause channel) a) time)

-- whether all is over, at a time and of hosts
abbrev over_at : Simulation → ℕ → Hosts → Bool
over_at s t hosts = (s.occupancy.came - s.occupancy.left == 0) && not (may_come_to s t && not (at_end hosts))

pub goes_on_for : (old resumed after : Simulation) (channel : ℕ) → Stays resumed after → GoesOn channel old.machine resumed.machine
    → after ≡ record resumed { machine = after.machine } → after.machine ≡ record resumed.machine { agenda = after.machine.agenda }
    → NextPause resumed.pauses (is_over resumed) channel (time_of resumed) (events_of resumed.machine.agenda) (events_of after.machine.agenda)
    → GoesOnFor channel old.machine after
goes_on_for old resumed after channel stays goes rest agenda next =
    let hosts : after.machine.hosts ≡ resumed.machine.hosts = ap (λ (m : Machine). m.hosts) agenda in
    let time : time_of after ≡ time_of resumed = stays_time resumed after stays in
    let over : is_over after ≡ is_over resumed =
    ap is_over rest ∙ ap (λ (t : ℕ). over_at resumed t after.machine.hosts) time ∙ ap (over_at resumed (time_of resumed)) hosts in
    record {
      resumed = resumed.machine;
      goes = goes;
      hosts = hosts;
      device = ap (λ (m : Machine). m.device) agenda;
      next = subst (λ (o : Option Pauses). NextPause o (is_over after) channel (time_of after) (events_of resumed.machine.agenda) (events_of after.machine.agenda))
          (sym (ap (λ (s : Simulation). s.pauses) rest))
          (subst (λ (t : ℕ). NextPause resumed.pauses (is_over after) channel t (events_of resumed.machine.agenda) (events_of after.machine.agenda)) (sym time)
          (subst (λ (b : Bool). NextPause resumed.pauses b channel (time_of resumed) (events_of resumed.machine.agenda) (events_of after.machine.agenda)) (sym over) next));
    }

pub came_if : (end : End) (t u : ℕ) (o p : Occupancy) → u ≡ t → may_come end t o ≡ true → Comes t o p → ComesIf (may_come end u o) u o p
came_if end t u o p same may comes = rw (same, may) comes

pub below_end : (b : Bool) (m n : ℕ) → (b && nat_lt m n) ≡ true → m < n
below_end true m n is = grind (arith, nat_tests)
below_end false m n is = absurd (cc is)

pub same_model : (a b : Simulation) → Stays a b → IsSameModel a b
same_model a b s = record {
  front = stays_front a.machine.front b.machine.front s.works.front;
  device = s.works.device;
  end = ap (λ (x : Simulation). x.end) s.rest;
  pauses = ap (λ (x : Simulation). x.pauses) s.rest;
  warm_up = ap (λ (x : Simulation). x.warm_up) s.rest;
}

pub stands_on : (a b : Simulation) → IsSameModel a b → IsSimulation a → IsSimulation b
stands_on a b s is = record { front = s.front.is; device = device_then (device_in a.machine.device) (device_in b.machine.device) is.device s.device }

-- what an event makes happen is no pick
pub event_lawful : (event : Event) (h : Happening) → cause h ≡ Some event → (rules : FrontRules) (notes : Notes) (room : ℕ) → IsLawful rules notes room h
event_lawful event (Picked p) is rules notes room = absurd (cc is)
event_lawful event Settled is rules notes room = absurd (cc is)
event_lawful event (Came queue) is rules notes room = tt
event_lawful event (Finished command counts) is rules notes room = tt
event_lawful event (Paused channel) is rules notes room = tt
event_lawful event (Resumed channel) is rules notes room = tt
event_lawful event Over is rules notes room = tt

pub over_lawful : (h : Happening) → h ≡ Over → (rules : FrontRules) (notes : Notes) (room : ℕ) → IsLawful rules notes room h
over_lawful h is rules notes room = subst (λ (x : Happening). IsLawful rules notes room x) (sym is) tt

pub event_picks : (event : Event) (h : Happening) (before : Bool) → cause h ≡ Some event → picks_behind h before ≡ true
event_picks event Settled before is = absurd (cc is)
event_picks event Over before is = absurd (cc is)
event_picks event (Came queue) before is = refl
event_picks event (Picked p) before is = refl
event_picks event (Finished command counts) before is = refl
event_picks event (Paused channel) before is = refl
event_picks event (Resumed channel) before is = refl

pub first_comes : (p : Option (Timed Event) × Held Event) (what : Event) (after : Held Event) (h : Happening) → option_map (λ (e : Timed Event). e.what) p.0 ≡ Some what
    → cause h ≡ Some what → Follows p.1 after → IsFirst p after h
first_comes (None, rest) what after h is tells follows = absurd (cc is)
first_comes (Some e, rest) what after h is tells follows = (tells ∙ sym is, follows)
