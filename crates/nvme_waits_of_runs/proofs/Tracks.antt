-- The calls of the device in a run, and what they take.
use Rattle.std.proofs.Common.{◌≡◌, ◌∙◌, ◌≤◌, ◌<◌, ℕ, zero, suc, List, [], ◌∷◌, ◌++◌, Option, Some, None, Result, Ok, Err, refl, sym, ap, subst, arith}
use Rattle.std.specs.Prelude.{All}
use Rattle.std.proofs.lemmas.List.Elements.{All-cons, All-weaker}
use Rattle.nvme_bounds.specs.DeviceRuns.{TakesAtMost}
use Rattle.nvme_bounds.specs.Pools.{GoesOn}
use Rattle.nvme_bounds.specs.Refills.{done, taken_behind, takes}
use Rattle.nvme_channels.specs.declared.channel.StepFault.{StepFault}
use Rattle.nvme_channels.specs.declared.channels.Start.{Start}
use Rattle.nvme_channels.specs.declared.placement.Placement.TheVariants.{Pool}
use Rattle.nvme_channels.specs.Devices.{Device, new_device, room_of}
use Rattle.nvme_channels.specs.Runs.{Step, Take, device_after, device_behind, now_of}
use Rattle.nvme_channels.specs.Steps.{take_of}
use Rattle.nvme_channels.proofs.Steady.{Kept, kept_after}
use Rattle.nvme_clock.specs.Held.{Held}
use Rattle.nvme_simulation.specs.Devices.{device_in}
use Rattle.nvme_simulation.specs.Machines.{TakesPicked}
use Rattle.nvme_simulation.specs.Plans.{events_of}
use Rattle.nvme_simulation.specs.Starts.{AnswersAs, PlansEnd, number_in}
use Rattle.nvme_simulation.specs.Taking.{TakesAll}
use Rattle.nvme_simulation.specs.Times.{now_of as time_in}
use Rattle.nvme_simulation.specs.declared.agenda.Event.{Event}
use Rattle.nvme_simulation.specs.declared.machine.Machine.{Machine}
use Rattle.nvme_simulation.proofs.Rooms.{take_room}
use Rattle.nvme_waits_of_runs.specs.Waits.{AllRunAtMost}
use Rattle.nvme_waits_of_runs.proofs.Calls.{IsPlanned, call_plans, take_runs, told_ok}
use Rattle.nvme_waits_of_runs.proofs.Services.{asks_short, moves_short, starts_short}

-- a device after calls until now, of which none took a command that runs longer, and the ends of what runs are planned
pub record Tracks (depth count longest : ℕ) (d : Device) (h : Held Event) (calls : List Step) : Type 0 where
  pub device : d ≡ device_after (new_device Pool depth count) calls
  pub past : All (λ c. now_of c ≤ h.time) calls
  pub on : All GoesOn calls
  pub short : All (TakesAtMost longest) calls
  pub planned : IsPlanned d h

-- one more call
pub one_more : (depth count longest : ℕ) (d : Device) (a b : Held Event) (calls : List Step) (step : Step) → Tracks depth count longest d a calls → a.time ≤ b.time → now_of step ≤ b.time
    → GoesOn step → TakesAtMost longest step → IsPlanned (device_behind step d) b → Tracks depth count longest (device_behind step d) b (step ∷ calls)
unfolding device_after
one_more depth count longest d a b calls step t later now on few planned = record {
  device = ap (device_behind step) t.device;
  past = All-cons (λ (c : Step). now_of c ≤ b.time) step calls now
      (All-weaker (λ (c : Step). now_of c ≤ a.time) (λ (c : Step). now_of c ≤ b.time) (λ c l. omega (arith, l, later)) calls t.past);
  on = All-cons GoesOn step calls on t.on;
  short = All-cons (TakesAtMost longest) step calls few t.short;
  planned = planned;
}

-- none
pub no_more : (depth count longest : ℕ) (d e : Device) (a b : Held Event) (calls : List Step) → Tracks depth count longest d a calls → a.time ≤ b.time → e ≡ d → IsPlanned e b
    → Tracks depth count longest e b calls
no_more depth count longest d e a b calls t later same planned = record {
  device = same ∙ t.device;
  past = All-weaker (λ (c : Step). now_of c ≤ a.time) (λ (c : Step). now_of c ≤ b.time) (λ c l. omega (arith, l, later)) calls t.past;
  on = t.on;
  short = t.short;
  planned = planned;
}

pub kept_of : (depth count longest : ℕ) (d : Device) (h : Held Event) (calls : List Step) → 0 < count → Tracks depth count longest d h calls → Kept d
kept_of depth count longest d h calls some t = subst Kept (sym t.device) (kept_after Pool depth count some calls)

-- ---- picks
pub plans_time : (started : _) (a b : Held Event) → PlansEnd started a b → b.time ≡ a.time
plans_time None a b same = ap (λ (h : Held Event). h.time) same
plans_time (Some s) a b same = ap (λ (h : Held Event). h.time) same

done_ok : (answer : Result (Option Start) StepFault) (started : _) → AnswersAs answer started → done answer ≡ 1
done_ok (Ok start) started a = refl
done_ok (Err fault) started a = absurd a

-- behind the commands of a pick
pub record Taken (depth count longest n : ℕ) (a b : Machine) (calls : List Step) : Type 0 where
  pub later : List Step
  pub tracks : Tracks depth count longest (device_in b.device) (events_of b.agenda) (later ++ calls)
  pub taken : taken_behind (new_device Pool depth count) calls later ≡ n
  pub time : time_in b.agenda ≡ time_in a.agenda
  pub short : AllRunAtMost longest b.hosts
  pub room : room_of (device_in b.device) ≤ room_of (device_in a.device)

take_one : (depth count longest n qid : ℕ) (a b c : Machine) (calls : List Step) → 0 < count → Taken depth count longest n a b calls → TakesPicked qid b c → Taken depth count longest (suc n) a c calls
unfolding taken_behind
take_one depth count longest n qid a b c calls some t one =
    let now : ℕ = time_in b.agenda in
    let step : Step = Take now (number_in one.taken) one.request.block one.request.service in
    let d : Device = device_in b.device in
    let kept = kept_of depth count longest d (events_of b.agenda) (t.later ++ calls) some t.tracks in
    let told = told_ok (take_of now (number_in one.taken) one.request.block one.request.service d).0 one.started one.answers in
    let time = plans_time one.started (events_of b.agenda) (events_of c.agenda) one.plans in
    let few = asks_short longest qid one.taken.number b.hosts one.request one.asks t.short in
    let planned : IsPlanned (device_behind step d) (events_of c.agenda) =
    call_plans (λ (k : ℕ). Unit {0}) d (take_of now (number_in one.taken) one.request.block one.request.service d) one.started (events_of b.agenda) (events_of c.agenda)
    (take_runs now (number_in one.taken) one.request.block one.request.service d kept) one.answers one.plans (λ k stays on. t.tracks.planned k on) in
    let tracks : Tracks depth count longest (device_behind step d) (events_of c.agenda) (step ∷ (t.later ++ calls)) =
    one_more depth count longest d (events_of b.agenda) (events_of c.agenda) (t.later ++ calls) step t.tracks (omega (arith, time)) (omega (arith, time)) tt few planned in
    let ok : done (take_of now (number_in one.taken) one.request.block one.request.service d).0 ≡ 1 =
    done_ok (take_of now (number_in one.taken) one.request.block one.request.service d).0 one.started one.answers in
    let here : takes step (device_after (new_device Pool depth count) (t.later ++ calls)) ≡ 1 = ap (takes step) (sym t.tracks.device) ∙ ok in
    let fell = take_room now (number_in one.taken) one.request.block one.request.service d kept.some told.0 told.1.0 in
    record {
      later = step ∷ t.later;
      tracks = subst (λ (e : Device). Tracks depth count longest e (events_of c.agenda) (step ∷ (t.later ++ calls))) (sym one.takes) tracks;
      taken = omega (arith, here, t.taken);
      time = time ∙ t.time;
      short = starts_short longest now one.started one.picked c.hosts one.starts (moves_short longest qid one.taken.number now _ b.hosts one.picked one.picks t.short);
      room = omega (arith, ap room_of one.takes, fell, t.room);
    }

pub take_all : (depth count longest n qid : ℕ) (a b : Machine) (calls : List Step) → 0 < count → Tracks depth count longest (device_in a.device) (events_of a.agenda) calls
    → AllRunAtMost longest a.hosts → TakesAll n qid a b → Taken depth count longest n a b calls
unfolding TakesAll taken_behind
take_all depth count longest zero qid a b calls some t short same =
    subst (λ (m : Machine). Taken depth count longest zero a m calls) (sym same)
    (record { later = []; tracks = t; taken = refl; time = refl; short = short; room = omega arith })
take_all depth count longest (suc n) qid a b calls some t short takes =
    take_one depth count longest n qid a takes.0 b calls some (take_all depth count longest n qid a takes.0 calls some t short takes.1.0) takes.1.1
