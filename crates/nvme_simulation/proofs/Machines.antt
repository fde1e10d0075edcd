-- How machines go on.
use Rattle.std.proofs.Common.{◌≡◌, ◌∙◌, ◌≤◌, ◌<◌, ℕ, ◌+◌, ◌-◌, ◌*◌, Bool, true, false, Option, Some, None, Result, Ok, Err, refl, sym, ap, subst, arith}
use Rattle.std.specs.Prelude.{IfSome, IsErr, OnOk, OnSome, SomeIff, slice_get}
use Rattle.nvme_simulation.specs.Devices.{device_in}
use Rattle.nvme_channels.specs.Steps.{finish_of, pause_of, resume_of}
use Rattle.nvme_clock.specs.Held.{Held, pushed}
use Rattle.nvme_simulation.specs.Following.{IsNextOf, PlansIf, PlansNext}
use Rattle.nvme_simulation.specs.Fronts.{IsFront, StaysFront}
use Rattle.nvme_simulation.specs.Machines.{Completes, EndsAndStarts, Goes, Works, Acts}
use Rattle.nvme_simulation.specs.Moving.{StartsIn}
use Rattle.nvme_simulation.specs.Pausing.{GoesOn, PausesFor}
use Rattle.nvme_simulation.specs.Plans.{events_of}
use Rattle.nvme_simulation.specs.Progress.{AllGoOn, OneComes}
use Rattle.nvme_simulation.specs.Quiet.{GoesFront}
use Rattle.nvme_simulation.specs.Starts.{AnswersAs, PlansEnd, StartsOn, started_in}
use Rattle.nvme_simulation.specs.Steps.{cost_at}
use Rattle.nvme_simulation.specs.Times.{now_of}
use Rattle.nvme_simulation.specs.declared.agenda.Event.{Event}
use Rattle.nvme_simulation.specs.declared.agenda.Event.TheVariants.{Arrival, Pause, Resume}
use Rattle.nvme_simulation.specs.declared.channels.Started.{Started}
use Rattle.nvme_simulation.specs.declared.front.Front.{Front}
use Rattle.nvme_simulation.specs.declared.front.Taken.{Taken}
use Rattle.nvme_simulation.specs.declared.hosts.Hosts.{Hosts}
use Rattle.nvme_simulation.specs.declared.machine.Machine.{Machine}
use Rattle.nvme_simulation.proofs.Hosted.{all_stay, all_then}
use Rattle.nvme_simulation.proofs.Plans.{follows_self, follows_then, follows_time}
use Rattle.nvme_simulation.proofs.Resting.{all_rest}
use Rattle.nvme_simulation.proofs.Quiet.{front_goes, front_rests, stays_front}
use Rattle.nvme_simulation.proofs.Rooms.{behind_none, behind_then}

pub front_stays : (f : Front) → IsFront f → StaysFront f f
front_stays f is = record { is = is; depths = refl; arbitrates = λ m s a. a }

pub front_then : (a b c : Front) → StaysFront a b → StaysFront b c → StaysFront a c
front_then a b c first second = record { is = second.is; depths = second.depths ∙ first.depths; arbitrates = λ m s it. second.arbitrates m s (first.arbitrates m s it) }

pub goes_front : (a b : Machine) → AllGoOn (now_of a.agenda) a.hosts b.hosts → GoesFront a.front b.front → b.agenda ≡ a.agenda → b.device ≡ a.device → Goes a b
goes_front a b hosts front agenda device = record {
  front = front;
  hosts = hosts;
  events = rw agenda (follows_self (events_of a.agenda));
  device = rw device (behind_none (device_in a.device));
}

pub goes_self : (a : Machine) → IsFront a.front → Goes a a
goes_self a is = record {
  front = front_rests a.front is;
  hosts = all_stay (now_of a.agenda) a.hosts;
  events = follows_self (events_of a.agenda);
  device = behind_none (device_in a.device);
}

pub goes_then : (a b c : Machine) → Goes a b → Goes b c → Goes a c
goes_then a b c first second = record {
  front = front_goes a.front b.front c.front first.front second.front;
  hosts = all_then (now_of a.agenda) a.hosts b.hosts c.hosts first.hosts
      (subst (λ (t : ℕ). AllGoOn t b.hosts c.hosts) (follows_time (events_of a.agenda) (events_of b.agenda) first.events) second.hosts);
  events = follows_then (events_of a.agenda) (events_of b.agenda) (events_of c.agenda) first.events second.events;
  device = behind_then (device_in a.device) (device_in b.device) (device_in c.device) first.device second.device;
}

-- so where a command may be picked
pub acts : (a b : Machine) → Goes a b → Acts a b
acts a b g = record { front = stays_front a.front b.front g.front; hosts = g.hosts; events = g.events; device = g.device }

pub acts_front : (a b : Machine) → AllGoOn (now_of a.agenda) a.hosts b.hosts → StaysFront a.front b.front → b.agenda ≡ a.agenda → b.device ≡ a.device → Acts a b
acts_front a b hosts front agenda device = record {
  front = front;
  hosts = hosts;
  events = rw agenda (follows_self (events_of a.agenda));
  device = rw device (behind_none (device_in a.device));
}

pub acts_then : (a b c : Machine) → Acts a b → Goes b c → Acts a c
acts_then a b c first second = record {
  front = front_then a.front b.front c.front first.front (stays_front b.front c.front second.front);
  hosts = all_then (now_of a.agenda) a.hosts b.hosts c.hosts first.hosts
      (subst (λ (t : ℕ). AllGoOn t b.hosts c.hosts) (follows_time (events_of a.agenda) (events_of b.agenda) first.events) second.hosts);
  events = follows_then (events_of a.agenda) (events_of b.agenda) (events_of c.agenda) first.events second.events;
  device = behind_then (device_in a.device) (device_in b.device) (device_in c.device) first.device second.device;
}

-- commands go on at a time that is told
pub all_at : (t u : ℕ) (a b : Hosts) → t ≡ u → AllGoOn t a b → AllGoOn u a b
all_at t u a b is goes = subst (λ (v : ℕ). AllGoOn v a b) is goes

pub comes_at : (qid t u : ℕ) (counts : Bool) (a b : Hosts) → t ≡ u → OneComes qid t counts a b → OneComes qid u counts a b
comes_at qid t u counts a b is one = subst (λ (v : ℕ). OneComes qid v counts a b) is one

pub works : (a b : Machine) → Goes a b → Works a b
works a b g = record { front = g.front; events = g.events; device = g.device }

pub works_then : (a b c : Machine) → Works a b → Works b c → Works a c
works_then a b c first second = record {
  front = front_goes a.front b.front c.front first.front second.front;
  events = follows_then (events_of a.agenda) (events_of b.agenda) (events_of c.agenda) first.events second.events;
  device = behind_then (device_in a.device) (device_in b.device) (device_in c.device) first.device second.device;
}

pub works_time : (a b : Machine) → Works a b → now_of b.agenda ≡ now_of a.agenda
works_time a b w = follows_time (events_of a.agenda) (events_of b.agenda) w.events

pub arrival_costs : (at : Option ℕ) (qid : ℕ) → cost_at at (Arrival qid) ≤ 2
arrival_costs None qid = omega arith
arrival_costs (Some at) qid = omega arith

pub pause_costs : (at : Option ℕ) (P : Type 0) (time now channel : ℕ) → SomeIff at P time → now < time
    → cost_at at (Pause channel) ≤ 4 * (0x1_0000_0000_0000_0000 - (now + 1))
pause_costs None P time now channel is later = omega arith
pause_costs (Some t) P time now channel is later = omega (arith, is.1, later)

pub on_ok_to : {T E P Q : Type 0} (r : Result T E) → (P → Q) → OnOk r P → OnOk r Q
on_ok_to (Ok x) f p = f p
on_ok_to (Err e) f p = tt

-- the next command of a queue is planned
pub plans_next : (qid time : ℕ) (m n : Machine) (E : Type 0) (next : Option ℕ) (r : Result Unit E) → (next ≡ None → IsErr r)
    → OnOk r (IfSome next (λ at. events_of n.agenda ≡ pushed at (Arrival qid) (events_of m.agenda))) → OnSome next (IsNextOf qid time next m.hosts n.hosts)
    → OnOk r (PlansNext qid time m n)
plans_next qid time m n E next (Err e) none plans draws = tt
plans_next qid time m n E None (Ok x) none plans draws = absurd (cc (none refl))
plans_next qid time m n E (Some at) (Ok x) none plans draws = record { at = at; next = draws; planned = plans }

-- what is planned for a time later
pub plans_sum : (P E : Type 0) (at : Option ℕ) (r : Result Unit E) (time : ℕ) (what : Event) (a b : Held Event) → SomeIff at P time → (at ≡ None → IsErr r)
    → OnOk r (IfSome at (λ t. b ≡ pushed t what a)) → OnOk r (b ≡ pushed time what a)
plans_sum P E at (Err e) time what a b sum none plans = tt
plans_sum P E None (Ok x) time what a b sum none plans = absurd (cc (none refl))
plans_sum P E (Some t) (Ok x) time what a b sum none plans = plans ∙ ap (λ (v : ℕ). pushed v what a) sum.1

-- a command ends at a time that is told, and the next one starts
pub ends_at : (t channel : ℕ) (taken : Taken) (m n : Machine) (started : Option Started) → t ≡ now_of m.agenda
    → AnswersAs (finish_of t channel (device_in m.device)).0 started → device_in n.device ≡ (finish_of t channel (device_in m.device)).1
    → PlansEnd started (events_of m.agenda) (events_of n.agenda) → slice_get (started_in m.device) channel ≡ Some (Some taken) → StartsOn started m.device n.device
    → (waited : Hosts) → StartsIn started (now_of m.agenda) m.hosts waited → Completes taken m.front waited n.hosts → EndsAndStarts channel taken m n
ends_at t channel taken m n started time answers device plans ran on waited starts completes = record {
  ran = ran;
  started = started;
  on = on;
  answers = subst (λ (v : ℕ). AnswersAs (finish_of v channel (device_in m.device)).0 started) time answers;
  device = device ∙ ap (λ (v : ℕ). (finish_of v channel (device_in m.device)).1) time;
  plans = plans;
  waited = waited;
  starts = starts;
  told = n.hosts;
  completes = completes;
  rests = all_rest n.hosts;
}

-- a completion is posted by a controller that stood before
pub completes_from : (taken : Taken) (f g : Front) (a b : Hosts) → StaysFront f g → Completes taken g a b → Completes taken f a b
completes_from taken f g a b stays is = record {
  answered = is.answered;
  stays = front_then f g is.answered stays is.stays;
  post = is.post;
  posts = is.posts;
  completion = is.completion;
  hears = is.hears;
}

-- a channel pauses at a time that is told
pub pauses_at : {E : Type 0} (t channel length : ℕ) (m n : Machine) (r : Result Unit E) → t ≡ now_of m.agenda
    → device_in n.device ≡ (pause_of channel (device_in m.device)).1 → started_in n.device ≡ started_in m.device → n.hosts ≡ m.hosts
    → OnOk r (events_of n.agenda ≡ pushed (t + length) (Resume channel) (events_of m.agenda)) → OnOk r (PausesFor channel length m n)
pauses_at t channel length m n (Err e) time device same hosts plans = tt
pauses_at t channel length m n (Ok x) time device same hosts plans = record {
  device = device;
  same = same;
  hosts = hosts;
  plans = plans ∙ ap (λ (v : ℕ). pushed (v + length) (Resume channel) (events_of m.agenda)) time;
}

-- a channel goes on at a time that is told
pub goes_on_at : (t channel : ℕ) (m n : Machine) (started : Option Started) → t ≡ now_of m.agenda → AnswersAs (resume_of t channel (device_in m.device)).0 started
    → device_in n.device ≡ (resume_of t channel (device_in m.device)).1 → StartsOn started m.device n.device → StartsIn started (now_of m.agenda) m.hosts n.hosts
    → PlansEnd started (events_of m.agenda) (events_of n.agenda) → GoesOn channel m n
goes_on_at t channel m n started time answers device on starts plans = record {
  started = started;
  on = on;
  answers = subst (λ (v : ℕ). AnswersAs (resume_of v channel (device_in m.device)).0 started) time answers;
  device = device ∙ ap (λ (v : ℕ). (resume_of v channel (device_in m.device)).1) time;
  starts = starts;
  plans = plans;
}

pub plans_if : (b : Bool) (qid t u : ℕ) (m n : Machine) → t ≡ u → b ≡ true → PlansNext qid t m n → PlansIf b qid u m n
plans_if b qid t u m n time follows plans =
    subst (λ (c : Bool). PlansIf c qid u m n) (sym follows) (subst (λ (v : ℕ). PlansNext qid v m n) time plans)

pub plans_if_not : (b : Bool) (qid t : ℕ) (m : Machine) → b ≡ false → PlansIf b qid t m m
plans_if_not b qid t m none = subst (λ (c : Bool). PlansIf c qid t m m) (sym none) refl

pub on_ok : {T E P : Type 0} (r : Result T E) → P → OnOk r P
on_ok (Ok x) p = p
on_ok (Err e) p = tt
