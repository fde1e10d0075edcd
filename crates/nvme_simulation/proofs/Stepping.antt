-- What a step makes happen.
use Rattle.std.proofs.Common.{◌≡◌, ◌∙◌, ◌≤◌, ℕ, ◌+◌, Bool, true, false, cond, Option, Some, None, option_map, Result, Ok, Err, inl, inr, refl, sym, ap, subst, arith}
use Rattle.std.specs.Prelude.{IfOk}
use Rattle.nvme_clock.specs.Held.{Held, popped}
use Rattle.nvme_clock.specs.declared.events.Event.{Event as Timed}
use Rattle.nvme_log.specs.Rules.{FrontRules}
use Rattle.nvme_ctrl_log.specs.Notes.{Notes}
use Rattle.nvme_simulation.specs.Counts.{Counts}
use Rattle.nvme_simulation.specs.Devices.{device_in}
use Rattle.nvme_simulation.specs.Handling.{Handles, IsOver, Stays}
use Rattle.nvme_simulation.specs.Fronts.{IsFront}
use Rattle.nvme_simulation.specs.Machines.{Acts}
use Rattle.nvme_simulation.specs.Passing.{Passes}
use Rattle.nvme_simulation.specs.Picks.{IsLawful, IsTimed}
use Rattle.nvme_simulation.specs.Planning.{PlansFor, StepPlans}
use Rattle.nvme_simulation.specs.Plans.{Follows, IsFirst, IsOfPicks, cause, events_of, is_pick, picks_behind}
use Rattle.nvme_simulation.specs.Quiet.{NotesAs}
use Rattle.nvme_simulation.specs.Simulations.{IsSameModel, StandsAt, counts_next, may_come_to, room_at}
use Rattle.nvme_simulation.specs.Stepping.{HasStepped}
use Rattle.nvme_simulation.specs.Steps.{cost, cost_in, cost_with, picked_in}
use Rattle.nvme_simulation.specs.Taking.{PicksAsTold}
use Rattle.nvme_simulation.specs.Times.{now_of}
use Rattle.nvme_simulation.specs.declared.agenda.Agenda.{Agenda}
use Rattle.nvme_simulation.specs.declared.agenda.Event.{Event}
use Rattle.nvme_simulation.specs.declared.happening.Happening.{Happening}
use Rattle.nvme_simulation.specs.declared.happening.Happening.TheVariants.{Came, Picked, Settled, Finished, Paused, Resumed, Over}
use Rattle.nvme_simulation.specs.declared.machine.Machine.{Machine}
use Rattle.nvme_simulation.specs.declared.simulation.Simulation.{Simulation}
use Rattle.nvme_simulation.proofs.Handling.{event_lawful, event_picks, first_comes, over_lawful, same_model, stays_time}
use Rattle.nvme_simulation.proofs.Plans.{follows_time}
use Rattle.nvme_simulation.proofs.Quiet.{event_notes, front_rests, over_notes, quiet_self, stays_front}
use Rattle.nvme_simulation.proofs.Rooms.{behind_none}

pub if_ok : {T E : Type 0} (P Q : T → Type 0) (r : Result T E) → ((x : T) → P x → Q x) → IfOk r P → IfOk r Q
if_ok P Q (Ok x) f p = f x p
if_ok P Q (Err e) f p = tt

-- no pick comes behind a step of picks: it told that there is none
pub settled_is : (h : Happening) → picks_behind h true ≡ false → h ≡ Settled
settled_is (Came queue) e = cc
settled_is (Picked p) e = cc
settled_is Settled e = refl
settled_is (Finished command counts) e = cc
settled_is (Paused channel) e = cc
settled_is (Resumed channel) e = cc
settled_is Over e = cc

-- the simulation after a pick, or after none
abbrev pub picked : Simulation → Machine → Happening → Simulation
picked a m h = record a { machine = m; picks = is_pick h }

picked_same : (a : Simulation) (m : Machine) (h : Happening) → Acts a.machine m → IsSameModel a (picked a m h)
picked_same a m h goes = record { front = goes.front; device = goes.device; end = refl; pauses = refl; warm_up = refl }

pub pick_steps : (a : Simulation) (m : Machine) (h : Happening) → a.picks ≡ true → Acts a.machine m → cost_with m + picked_in h ≤ cost_with a.machine → IsOfPicks h
    → IsTimed (now_of m.agenda) h → Counts a.end (now_of m.agenda) a.occupancy a.occupancy h
    → Passes (may_come_to a (now_of m.agenda)) (counts_next a) (now_of m.agenda) a.machine.hosts m.hosts h → PicksAsTold a.machine m h
    → ((rules : FrontRules) (late : Bool) (notes : Notes) → StandsAt rules late notes a → IsLawful rules notes (room_at a) h) → NotesAs h a.machine.front m.front
    → HasStepped a (picked a m h) h
pick_steps a m (Picked p) picks goes costs is timed counts passes plans lawful notes = record {
  same = picked_same a m (Picked p) goes;
  forward = omega (arith, follows_time (events_of a.machine.agenda) (events_of m.agenda) goes.events);
  next = rw picks (is, goes.events);
  picks = refl;
  timed = timed;
  counts = counts;
  passes = passes;
  plans = plans;
  lawful = lawful;
  notes = notes;
  falls = inr (let was : ◌≡◌ {A = ℕ} (cond a.picks 1 0) 1 = ap (λ (b : Bool). cond b 1 0) picks in omega (arith, costs, was));
}
pick_steps a m Settled picks goes costs is timed counts passes plans lawful notes = record {
  same = picked_same a m Settled goes;
  forward = omega (arith, follows_time (events_of a.machine.agenda) (events_of m.agenda) goes.events);
  next = rw picks (is, goes.events);
  picks = refl;
  timed = timed;
  counts = counts;
  passes = passes;
  plans = plans;
  lawful = lawful;
  notes = notes;
  falls = inr (let was : ◌≡◌ {A = ℕ} (cond a.picks 1 0) 1 = ap (λ (b : Bool). cond b 1 0) picks in omega (arith, costs, was));
}
pick_steps a m (Came queue) picks goes costs is timed counts passes plans lawful notes = absurd is
pick_steps a m (Finished command counting) picks goes costs is timed counts passes plans lawful notes = absurd is
pick_steps a m (Paused channel) picks goes costs is timed counts passes plans lawful notes = absurd is
pick_steps a m (Resumed channel) picks goes costs is timed counts passes plans lawful notes = absurd is
pick_steps a m Over picks goes costs is timed counts passes plans lawful notes = absurd is

-- the simulation whose first event comes
abbrev pub reached : Simulation → Agenda → Simulation
reached a g = record a { machine = record a.machine { agenda = g }; picks = true }

step_plans : (a b : Simulation) (g : Agenda) (event : Event) (h : Happening) → cause h ≡ Some event → events_of g ≡ (popped (events_of a.machine.agenda)).1 → PlansFor h (reached a g) b → StepPlans h a b
step_plans a b g event (Came queue) tells rest plans = record { rest = g; is = rest; plans = plans }
step_plans a b g event (Finished command counts) tells rest plans = record { rest = g; is = rest; plans = plans }
step_plans a b g event (Picked p) tells rest plans = absurd (cc tells)
step_plans a b g event Settled tells rest plans = absurd (cc tells)
step_plans a b g event (Paused channel) tells rest plans =
    record { rest = g; is = rest; plans = record { pauses = plans.pauses; are = plans.are; does = plans.does } }
step_plans a b g event (Resumed channel) tells rest plans = record { rest = g; is = rest; plans = plans }
step_plans a b g event Over tells rest plans = absurd (cc tells)

pub event_steps : (a b : Simulation) (g : Agenda) (event : Event) (h : Happening) → a.picks ≡ false
    → option_map (λ (e : Timed Event). e.what) (popped (events_of a.machine.agenda)).0 ≡ Some event → events_of g ≡ (popped (events_of a.machine.agenda)).1 → now_of a.machine.agenda ≤ now_of g
    → cost_in a.machine.agenda ≡ cost_in g + cost (now_of g) event → Stays (reached a g) b → Handles event (reached a g) b h → HasStepped a b h
event_steps a b g event h picks what rest later costs stays handles = record {
  forward = omega (arith, later, stays_time (reached a g) b stays);
  same = let s = same_model (reached a g) b stays in record { front = s.front; device = s.device; end = s.end; pauses = s.pauses; warm_up = s.warm_up };
  lawful = λ rules late notes s. event_lawful event h handles.tells rules notes (room_at a);
  notes = event_notes event h a.machine.front b.machine.front handles.tells stays.works.front.quiet;
  next = rw picks (first_comes (popped (events_of a.machine.agenda)) event (events_of b.machine.agenda) h what handles.tells
      (subst (λ (before : Held Event). Follows before (events_of b.machine.agenda)) rest stays.works.events));
  picks = ap (λ (s : Simulation). s.picks) stays.rest ∙ sym (event_picks event h a.picks handles.tells);
  timed = handles.timed;
  counts = handles.counts;
  passes = handles.passes;
  plans = step_plans a b g event h handles.tells rest handles.plans;
  falls = inr (let was : ◌≡◌ {A = ℕ} (cond a.picks 1 0) 0 = ap (λ (b : Bool). cond b 1 0) picks in omega (arith, handles.cost, costs, was));
}

first_none : (p : Option (Timed Event) × Held Event) (after : Held Event) (h : Happening) → option_map (λ (e : Timed Event). e.what) p.0 ≡ None → h ≡ Over
    → after ≡ p.1 → IsFirst p after h
first_none (None, rest) after h none over is = (over, is)
first_none (Some e, rest) after h none over is = absurd (cc none)

-- the simulation where no event was to come
abbrev pub at_end : Simulation → Agenda → Simulation
at_end a g = record a { machine = record a.machine { agenda = g } }

pub over_steps : (a : Simulation) (g : Agenda) (h : Happening) → IsFront a.machine.front → a.picks ≡ false
    → option_map (λ (e : Timed Event). e.what) (popped (events_of a.machine.agenda)).0 ≡ None → events_of g ≡ (popped (events_of a.machine.agenda)).1 → now_of a.machine.agenda ≤ now_of g
    → IsOver (at_end a g) h → HasStepped a (at_end a g) h
over_steps a g h front picks none rest later is = record {
  forward = later;
  same = record {
    front = stays_front a.machine.front a.machine.front (front_rests a.machine.front front);
    device = behind_none (device_in a.machine.device);
    end = refl;
    pauses = refl;
    warm_up = refl;
  };
  lawful = λ rules late notes s. over_lawful h is.0 rules notes (room_at a);
  notes = over_notes h a.machine.front a.machine.front is.0 (quiet_self a.machine.front);
  next = rw picks (first_none (popped (events_of a.machine.agenda)) (events_of g) h none is.0 rest);
  picks = subst (λ (x : Happening). a.picks ≡ picks_behind x a.picks) (sym is.0) refl;
  timed = subst (λ (x : Happening). IsTimed (now_of g) x) (sym is.0) tt;
  counts = is.1;
  passes = is.2;
  plans = subst (λ (x : Happening). StepPlans x a (at_end a g)) (sym is.0) refl;
  falls = inl is.0;
}
