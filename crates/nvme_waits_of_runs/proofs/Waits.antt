-- A queue that waits in a run waits no longer than the bounds say.
use Rattle.std.proofs.Common.{◌≡◌, ◌≢◌, ◌∙◌, ◌≤◌, ◌<◌, ℕ, zero, suc, ◌+◌, Bool, true, false, min, List, [], ◌∷◌, ◌++◌, get_or, replicate, count_by, Some, None, inl, inr, refl, sym, ap, subst, arith}
use Rattle.std.specs.Prelude.{All}
use Rattle.std.proofs.lemmas.Bool.{cases_lt, true≢false}
use Rattle.std.proofs.lemmas.List.{append_assoc, get_or_default}
use Rattle.std.proofs.lemmas.List.Elements.{All-cons, All-head, All-nil, All-tail, All-weaker}
use Rattle.std.proofs.lemmas.List.Sums.{sum_by-cons}
use Rattle.nvme_arbiter.specs.History.{History, Picked as PickedEvent, settings_after}
use Rattle.nvme_arbiter.specs.Lawful.{IsLimitedRun}
use Rattle.nvme_arbiter.specs.Service.{Turn, events_of as events_in, sees_ready_in}
use Rattle.nvme_arbiter.specs.Settings.{ArbitrationFields}
use Rattle.nvme_arbiter.specs.declared.settings.Class.{Class}
use Rattle.nvme_arbiter.specs.declared.settings.Mechanism.{Mechanism}
use Rattle.nvme_bounds.specs.Before.{most_before}
use Rattle.nvme_bounds.specs.DeviceRuns.{EndsFrom, NoneEndsBefore, TakesAtMost, runs_in}
use Rattle.nvme_bounds.specs.Pools.{GoesOn}
use Rattle.nvme_bounds.specs.Refills.{taken_behind, takes}
use Rattle.nvme_bounds.specs.Runs.{runs_at}
use Rattle.nvme_bounds.specs.Stretches.{IsAmong, commands_of, counts}
use Rattle.nvme_bounds.proofs.Composed.{waits_are_short}
use Rattle.nvme_bounds.proofs.DeviceRuns.{busy_at, last_at_most, more_runs, refilled_by}
use Rattle.nvme_bounds.proofs.Refills.{ends_make_room}
use Rattle.nvme_channels.specs.declared.placement.Placement.{Placement}
use Rattle.nvme_channels.specs.declared.placement.Placement.TheVariants.{Pool}
use Rattle.nvme_channels.specs.Devices.{Device, channel_at, idle, new_device, room_of}
use Rattle.nvme_channels.specs.Runs.{Step, device_after, now_of}
use Rattle.nvme_clock.specs.Held.{first_of, popped}
use Rattle.nvme_clock.specs.declared.events.Event.{Event as Timed}
use Rattle.nvme_log.specs.Histories.{arbitration_of}
use Rattle.nvme_log.specs.Rules.{FrontRules}
use Rattle.nvme_ctrl_log.specs.Notes.{Notes, logged}
use Rattle.nvme_ctrl_log.specs.Observation.{observed_of}
use Rattle.nvme_ctrl_log.specs.Steps.{picked_notes}
use Rattle.nvme_model.specs.declared.model.Model.{Model}
use Rattle.nvme_simulation.specs.Beginnings.{IsNewOf}
use Rattle.nvme_simulation.specs.Devices.{device_in}
use Rattle.nvme_simulation.specs.Fronts.{IsFrontOf}
use Rattle.nvme_simulation.specs.Plans.{IsFirst, IsNext, events_of}
use Rattle.nvme_simulation.specs.Quiet.{Quietly, StandsBehind}
use Rattle.nvme_simulation.specs.Runs.{IsRun, Moment}
use Rattle.nvme_simulation.specs.Simulations.{IsSimulation, StandsAt, hosts_of, picks_of, room_at, time_of}
use Rattle.nvme_simulation.specs.Stepping.{HasStepped}
use Rattle.nvme_simulation.specs.Waits.{IsReady}
use Rattle.nvme_simulation.specs.declared.agenda.Event.{Event}
use Rattle.nvme_simulation.specs.declared.happening.Happening.{Happening}
use Rattle.nvme_simulation.specs.declared.happening.Happening.TheVariants.{Came, Picked, Settled, Finished, Paused, Resumed, Over}
use Rattle.nvme_simulation.specs.declared.machine.Machine.{Machine}
use Rattle.nvme_simulation.specs.declared.simulation.Simulation.{Simulation}
use Rattle.nvme_simulation.proofs.Handling.{stands_on}
use Rattle.nvme_simulation.proofs.Plans.{follows_time}
use Rattle.nvme_simulation.proofs.Waits.{picks_have_room, settled_is_full}
use Rattle.nvme_waits_of_runs.specs.Waits.{AllRunAtMost, HasSettings, PassesBy, SeesAmong, WaitsIn, WaitsOfRunsAreShort, settles}
use Rattle.nvme_waits_of_runs.proofs.Calls.{IsPlanned}
use Rattle.nvme_waits_of_runs.proofs.Ends.{Ascending, EndIn, agenda_ascends, first_before, none_in}
use Rattle.nvme_waits_of_runs.proofs.Histories.{pick_history, quiet_history}
use Rattle.nvme_waits_of_runs.proofs.Steps.{commands_in, comes, rest_of, room_made, step_tracks}
use Rattle.nvme_waits_of_runs.proofs.Tracks.{Tracks}

-- ---- the device of a model
abbrev depth_of : Model → ℕ
depth_of model = model.device.depth

abbrev count_of : Model → ℕ
count_of model = model.device.channels

abbrev pool_of : Model → Device
pool_of model = new_device Pool (depth_of model) (count_of model)

abbrev least_of : Model → ℕ
least_of model = min (count_of model) (depth_of model)

-- none of its commands is to end before the next event
channel_ends : (time : ℕ) (d : Device) → ((k : ℕ) → (channel_at d k).running ≡ true → time ≤ (channel_at d k).ends) → NoneEndsBefore time d
channel_ends time d each k x l = subst (EndsFrom time) (get_or_default d.channels k idle x l) (each k)

none_ends : (a b : Simulation) (h : Happening) → HasStepped a b h → picks_of a ≡ false → IsPlanned (device_in a.machine.device) (events_of a.machine.agenda)
    → NoneEndsBefore (time_of b) (device_in a.machine.device)
none_ends a b h s picks planned = channel_ends (time_of b) (device_in a.machine.device) (λ k on. at k (planned k on) (events_of a.machine.agenda).events refl)
  where
    next : IsFirst (popped (events_of a.machine.agenda)) (events_of b.machine.agenda) h
    next = subst (λ (p : Bool). IsNext p (events_of a.machine.agenda) (events_of b.machine.agenda) h) picks s.next

    at : (k : ℕ) → EndIn k (channel_at (device_in a.machine.device) k).ends (events_of a.machine.agenda).events → (es : List (Timed Event))
        → (events_of a.machine.agenda).events ≡ es → time_of b ≤ (channel_at (device_in a.machine.device) k).ends
    at k some [] is = absurd (none_in k (channel_at (device_in a.machine.device) k).ends (subst (EndIn k (channel_at (device_in a.machine.device) k).ends) is some))
    at k some (e ∷ es) is =
        let first : IsFirst (first_of (events_of a.machine.agenda) (e ∷ es)) (events_of b.machine.agenda) h =
        subst (λ (xs : List (Timed Event)). IsFirst (first_of (events_of a.machine.agenda) xs) (events_of b.machine.agenda) h) is next in
        let time : time_of b ≡ e.at = follows_time (rest_of (events_of a.machine.agenda) e es) (events_of b.machine.agenda) first.1 in
        let ascending : Ascending (e ∷ es) = subst Ascending is (agenda_ascends a.machine.agenda) in
        let before = first_before k (channel_at (device_in a.machine.device) k).ends e es ascending (subst (EndIn k (channel_at (device_in a.machine.device) k).ends) is some) in
        omega (arith, time, before)

-- ---- a run
-- a controller stands at notes at which the model's settings are in force
pub record Arranged (model : Model) (s : Simulation) : Type 0 where
  pub front : IsFrontOf model.mechanism model.settings s.machine.front
  pub settings : settings_after front.rules.start.settings (arbitration_of (logged front.notes)) ≡ model.settings

arranged_behind : (model : Model) (b : Simulation) (rules : FrontRules) (late : Bool) (notes : Notes)
    → StandsBehind rules late notes b.machine.front.controller b.machine.front.pool.items → late ≡ false → rules.mechanism ≡ model.mechanism
    → rules.start.settings ≡ model.settings → settings_after rules.start.settings (arbitration_of (logged notes)) ≡ model.settings → Arranged model b
arranged_behind model b rules late notes later in_time mechanism first settings = record {
  front = record {
    rules = rules;
    late = late;
    notes = later.later ++ notes;
    stands = later.stands;
    in_time = in_time;
    mechanism_is = mechanism;
    settings_are = first;
  };
  settings = ap (λ (past : History). settings_after rules.start.settings past) (quiet_history later.later notes later.quiet) ∙ settings;
}

quiet_arranged : (model : Model) (a b : Simulation) → Quietly a.machine.front b.machine.front → Arranged model a → Arranged model b
quiet_arranged model a b quiet r =
    let f = r.front in
    arranged_behind model b f.rules f.late f.notes (quiet f.rules f.late f.notes f.stands) f.in_time f.mechanism_is f.settings_are r.settings

pub arranged_step : (model : Model) (a b : Simulation) (h : Happening) → HasStepped a b h → Arranged model a → Arranged model b
arranged_step model a b (Came queue) s r = quiet_arranged model a b s.notes r
arranged_step model a b Settled s r = quiet_arranged model a b s.notes r
arranged_step model a b (Finished command counted) s r = quiet_arranged model a b s.notes r
arranged_step model a b (Paused channel) s r = quiet_arranged model a b s.notes r
arranged_step model a b (Resumed channel) s r = quiet_arranged model a b s.notes r
arranged_step model a b Over s r = quiet_arranged model a b s.notes r
arranged_step model a b (Picked p) s r =
    let f = r.front in
    arranged_behind model b f.rules f.late (picked_notes f.notes p.pick) (s.notes f.rules f.late f.notes f.stands) f.in_time f.mechanism_is f.settings_are r.settings

record Run (model : Model) (longest : ℕ) (s : Simulation) : Type 0 where
  pub sim : IsSimulation s
  pub pauses : s.pauses ≡ None
  pub arranged : Arranged model s
  pub calls : List Step
  pub tracks : Tracks (depth_of model) (count_of model) longest (device_in s.machine.device) (events_of s.machine.agenda) calls

idle_at : (count k : ℕ) → (get_or (replicate count idle) k idle).running ≡ true → ⊥
idle_at zero k on = true≢false (sym on)
idle_at (suc count) zero on = true≢false (sym on)
idle_at (suc count) (suc k) on = idle_at count k on

run_begins : (model : Model) (longest : ℕ) (s : Simulation) → IsNewOf model s → model.device.placement ≡ Pool → model.device.pauses ≡ None → HasSettings model.settings s → Run model longest s
unfolding device_after
run_begins model longest s new pool pauses settings =
    let device : device_in s.machine.device ≡ pool_of model = new.device ∙ ap (λ (p : Placement). new_device p (depth_of model) (count_of model)) pool in
    record {
      sim = record {
        front = record { rules = new.front.rules; late = new.front.late; notes = new.front.notes; stands = new.front.stands };
        device = record { placement = Pool; depth = depth_of model; channels = count_of model; some = model.device.some; calls = []; is = device };
      };
      pauses = new.pauses ∙ pauses;
      arranged = record { front = new.front; settings = settings new.front.rules new.front.late new.front.notes new.front.stands };
      calls = [];
      tracks = record {
        device = device;
        past = All-nil (λ (c : Step). now_of c ≤ (events_of s.machine.agenda).time);
        on = All-nil GoesOn;
        short = All-nil (TakesAtMost longest);
        planned = subst (λ (d : Device). IsPlanned d (events_of s.machine.agenda)) (sym device) (λ k on. absurd (idle_at (count_of model) k on));
      };
    }

run_steps : (model : Model) (longest : ℕ) (a b : Simulation) (h : Happening) → HasStepped a b h → AllRunAtMost longest (hosts_of a) → Run model longest a → Run model longest b
run_steps model longest a b h s short r =
    let step = step_tracks (depth_of model) (count_of model) longest a b h r.calls model.device.some r.pauses s r.tracks short in
    record {
      sim = stands_on a b s.same r.sim;
      pauses = s.same.pauses ∙ r.pauses;
      arranged = arranged_step model a b h s r.arranged;
      calls = step.later ++ r.calls;
      tracks = step.tracks;
    }

run_goes : (model : Model) (longest : ℕ) (first s : Simulation) (past : List Moment) → Run model longest first → IsRun first past s
    → All (λ m. AllRunAtMost longest (hosts_of m.before)) past → Run model longest s
unfolding IsRun
run_goes model longest first s [] r same short = subst (Run model longest) (sym same) r
run_goes model longest first s (m ∷ past) r goes short =
    let before = run_goes model longest first m.before past r goes.1.1 (All-tail (λ (m : Moment). AllRunAtMost longest (hosts_of m.before)) m past short) in
    subst (Run model longest) goes.0
    (run_steps model longest m.before m.after m.told goes.1.0 (All-head (λ (m : Moment). AllRunAtMost longest (hosts_of m.before)) m past short) before)

-- ---- a stretch of steps in which a queue waits
-- the notes, and the picks since the first ones
record Noted (rules : FrontRules) (late : Bool) (old : Notes) (ids : Class → List ℕ) (class : Class) (qid : ℕ) (s : Simulation) : Type 0 where
  pub turns : List Turn
  pub notes : Notes
  pub stands : StandsAt rules late notes s
  pub history : arbitration_of (logged notes) ≡ events_in turns ++ arbitration_of (logged old)
  pub few : All (λ t. t.pick.n ≤ 1) turns
  pub among : All (λ t. IsAmong ids t.seen) turns
  pub waits : All (λ t. sees_ready_in class qid t ≡ true) turns
  pub passed : All (λ t. t.pick.qid ≢ qid) turns

abbrev quiet_noted : (rules : FrontRules) (late : Bool) (old : Notes) (ids : Class → List ℕ) (class : Class) (qid : ℕ) (a b : Simulation) → Quietly a.machine.front b.machine.front
    → Noted rules late old ids class qid a → Noted rules late old ids class qid b
quiet_noted rules late old ids class qid a b quiet n =
    let later = quiet rules late n.notes n.stands in
    record {
      turns = n.turns;
      notes = later.later ++ n.notes;
      stands = later.stands;
      history = quiet_history later.later n.notes later.quiet ∙ n.history;
      few = n.few;
      among = n.among;
      waits = n.waits;
      passed = n.passed;
    }

none_more : (n : ℕ) → n ≡ 0 + n
none_more n = omega arith

noted_step : (rules : FrontRules) (late : Bool) (old : Notes) (ids : Class → List ℕ) (class : Class) (qid : ℕ) (a b : Simulation) (h : Happening) → IsSimulation a → room_at a ≤ 1
    → HasStepped a b h → IsReady class qid a → PassesBy qid h → SeesAmong ids a → (n : Noted rules late old ids class qid a)
    → (m : Noted rules late old ids class qid b) × (commands_of m.turns ≡ commands_in h + commands_of n.turns)
noted_step rules late old ids class qid a b (Came queue) is room s ready passed among n = (quiet_noted rules late old ids class qid a b s.notes n, none_more (commands_of n.turns))
noted_step rules late old ids class qid a b Settled is room s ready passed among n = (quiet_noted rules late old ids class qid a b s.notes n, none_more (commands_of n.turns))
noted_step rules late old ids class qid a b (Finished command counted) is room s ready passed among n = (quiet_noted rules late old ids class qid a b s.notes n, none_more (commands_of n.turns))
noted_step rules late old ids class qid a b (Paused channel) is room s ready passed among n = (quiet_noted rules late old ids class qid a b s.notes n, none_more (commands_of n.turns))
noted_step rules late old ids class qid a b (Resumed channel) is room s ready passed among n = (quiet_noted rules late old ids class qid a b s.notes n, none_more (commands_of n.turns))
noted_step rules late old ids class qid a b Over is room s ready passed among n = (quiet_noted rules late old ids class qid a b s.notes n, none_more (commands_of n.turns))
noted_step rules late old ids class qid a b (Picked p) is room s ready passed among n =
    let later = s.notes rules late n.notes n.stands in
    let turn : Turn = record { seen = observed_of n.notes; pick = p.pick } in
    let few = picks_have_room a b p is s in (
      record {
        turns = turn ∷ n.turns;
        notes = later.later ++ picked_notes n.notes p.pick;
        stands = later.stands;
        history = pick_history later.later n.notes p.pick later.quiet ∙ ap (λ (past : History). PickedEvent (observed_of n.notes) p.pick ∷ past) n.history;
        few = All-cons (λ (t : Turn). t.pick.n ≤ 1) turn n.turns (omega (arith, few, room)) n.few;
        among = All-cons (λ (t : Turn). IsAmong ids t.seen) turn n.turns (among rules late n.notes n.stands) n.among;
        waits = All-cons (λ (t : Turn). sees_ready_in class qid t ≡ true) turn n.turns (ready rules late n.notes n.stands) n.waits;
        passed = All-cons (λ (t : Turn). t.pick.qid ≢ qid) turn n.turns passed n.passed;
      },
      sum_by-cons (λ (t : Turn). t.pick.n) turn n.turns,
    )

-- the room behind a step
full_behind : (class : Class) (qid : ℕ) (a b : Simulation) (h : Happening) → IsSimulation a → HasStepped a b h → IsReady class qid a → (picks_of a ≡ false → room_at a ≡ 0)
    → room_at b ≤ room_at a + room_made h → picks_of b ≡ false → room_at b ≡ 0
full_behind class qid a b Settled is s ready full room none = let zero = settled_is_full a b is s class qid ready in omega (arith, zero, room)
full_behind class qid a b Over is s ready full room none = let zero = full (sym s.picks ∙ none) in omega (arith, zero, room)
full_behind class qid a b (Came queue) is s ready full room none = absurd (true≢false (sym s.picks ∙ none))
full_behind class qid a b (Picked p) is s ready full room none = absurd (true≢false (sym s.picks ∙ none))
full_behind class qid a b (Finished command counted) is s ready full room none = absurd (true≢false (sym s.picks ∙ none))
full_behind class qid a b (Paused channel) is s ready full room none = absurd (true≢false (sym s.picks ∙ none))
full_behind class qid a b (Resumed channel) is s ready full room none = absurd (true≢false (sym s.picks ∙ none))

few_behind : (a b : Simulation) (h : Happening) → HasStepped a b h → room_at a ≤ 1 → (picks_of a ≡ false → room_at a ≡ 0) → room_at b ≤ room_at a + room_made h → room_at b ≤ 1
few_behind a b (Finished command counted) s few full room =
    let zero = full (comes a b (Finished command counted) _ s refl).picks in omega (arith, zero, room)
few_behind a b (Came queue) s few full room = omega (arith, few, room)
few_behind a b (Picked p) s few full room = omega (arith, few, room)
few_behind a b Settled s few full room = omega (arith, few, room)
few_behind a b (Paused channel) s few full room = omega (arith, few, room)
few_behind a b (Resumed channel) s few full room = omega (arith, few, room)
few_behind a b Over s few full room = omega (arith, few, room)

record Stretch (model : Model) (rules : FrontRules) (late : Bool) (old : Notes) (ids : Class → List ℕ) (class : Class) (qid longest start : ℕ) (past : List Step) (s : Simulation) : Type 0 where
  pub sim : IsSimulation s
  pub pauses : s.pauses ≡ None
  pub noted : Noted rules late old ids class qid s
  pub calls : List Step
  pub tracks : Tracks (depth_of model) (count_of model) longest (device_in s.machine.device) (events_of s.machine.agenda) (calls ++ past)
  pub taken : taken_behind (pool_of model) past calls ≡ commands_of noted.turns
  pub few : room_at s ≤ 1
  pub full : picks_of s ≡ false → room_at s ≡ 0
  pub busy : (t : ℕ) → start ≤ t → t < time_of s → least_of model ≤ count_by (runs_at t) (runs_in (pool_of model) (calls ++ past))

taken_both : (start : Device) (past middle later : List Step) → taken_behind start past (later ++ middle) ≡ taken_behind start (middle ++ past) later + taken_behind start past middle
unfolding taken_behind
taken_both start past middle [] = omega arith
taken_both start past middle (step ∷ later) =
    let rest = taken_both start past middle later in
    let same : takes step (device_after start ((later ++ middle) ++ past)) ≡ takes step (device_after start (later ++ (middle ++ past))) =
    ap (λ (cs : List Step). takes step (device_after start cs)) (append_assoc later middle past) in
    omega (arith, rest, same)

stays_busy : (model : Model) (longest start : ℕ) (a b : Simulation) (h : Happening) (later calls : List Step) → HasStepped a b h
    → Tracks (depth_of model) (count_of model) longest (device_in a.machine.device) (events_of a.machine.agenda) calls → (picks_of a ≡ false → room_at a ≡ 0)
    → ((t : ℕ) → start ≤ t → t < time_of a → least_of model ≤ count_by (runs_at t) (runs_in (pool_of model) calls))
    → (t : ℕ) → start ≤ t → t < time_of b → least_of model ≤ count_by (runs_at t) (runs_in (pool_of model) (later ++ calls))
stays_busy model longest start a b h later calls s tracks full busy t from to = elim (cases_lt t (time_of a)) [
  | inl early ↦ (let before = busy t from early in let more = more_runs (runs_at t) (pool_of model) later calls in omega (arith, before, more))
  | inr late ↦ by late (picks_of a) refl
]
  where
    by : time_of a ≤ t → (p : Bool) → picks_of a ≡ p → least_of model ≤ count_by (runs_at t) (runs_in (pool_of model) (later ++ calls))
    by late true is =
        let next = subst (λ (p : Bool). IsNext p (events_of a.machine.agenda) (events_of b.machine.agenda) h) is s.next in
        let time = follows_time (events_of a.machine.agenda) (events_of b.machine.agenda) next.1 in
        absurd (omega (arith, time, to, late))
    by late false is =
        let ends = none_ends a b h s is tracks.planned in
        let after : NoneEndsBefore (t + 1) (device_in a.machine.device) =
        All-weaker (EndsFrom (time_of b)) (EndsFrom (t + 1)) (λ c each on. let l = each on in omega (arith, l, to)) (device_in a.machine.device).channels ends in
        busy_at (depth_of model) (count_of model) t later calls model.device.some tracks.on (ap room_of (sym tracks.device) ∙ full is)
        (All-weaker (λ (c : Step). now_of c ≤ time_of a) (λ (c : Step). now_of c ≤ t) (λ c l. omega (arith, l, late)) calls tracks.past)
        (subst (NoneEndsBefore (t + 1)) tracks.device after)

stretch_step : (model : Model) (rules : FrontRules) (late : Bool) (old : Notes) (ids : Class → List ℕ) (class : Class) (qid longest start : ℕ) (past : List Step) (a b : Simulation) (h : Happening)
    → HasStepped a b h → IsReady class qid a → PassesBy qid h → SeesAmong ids a → AllRunAtMost longest (hosts_of a)
    → Stretch model rules late old ids class qid longest start past a → Stretch model rules late old ids class qid longest start past b
stretch_step model rules late old ids class qid longest start past a b h s ready passed among short w =
    let step = step_tracks (depth_of model) (count_of model) longest a b h (w.calls ++ past) model.device.some w.pauses s w.tracks short in
    let noted = noted_step rules late old ids class qid a b h w.sim w.few s ready passed among w.noted in
    let both : step.later ++ (w.calls ++ past) ≡ (step.later ++ w.calls) ++ past = sym (append_assoc step.later w.calls past) in
    record {
      sim = stands_on a b s.same w.sim;
      pauses = s.same.pauses ∙ w.pauses;
      noted = noted.0;
      calls = step.later ++ w.calls;
      tracks = subst (λ (cs : List Step). Tracks (depth_of model) (count_of model) longest (device_in b.machine.device) (events_of b.machine.agenda) cs) both step.tracks;
      taken = omega (arith, taken_both (pool_of model) past w.calls step.later, step.taken, w.taken, noted.1);
      few = few_behind a b h s w.few w.full step.room;
      full = full_behind class qid a b h w.sim s ready w.full step.room;
      busy = λ t from to. subst (λ (cs : List Step). least_of model ≤ count_by (runs_at t) (runs_in (pool_of model) cs)) both
          (stays_busy model longest start a b h step.later (w.calls ++ past) s w.tracks w.full w.busy t from to);
    }

stretch_goes : (model : Model) (rules : FrontRules) (late : Bool) (old : Notes) (ids : Class → List ℕ) (class : Class) (qid longest start : ℕ) (past : List Step) (from s : Simulation) (steps : List Moment)
    → Stretch model rules late old ids class qid longest start past from → IsRun from steps s → All (WaitsIn ids class qid) steps
    → All (λ m. AllRunAtMost longest (hosts_of m.before)) steps → Stretch model rules late old ids class qid longest start past s
unfolding IsRun
stretch_goes model rules late old ids class qid longest start past from s [] w same waits short = subst (Stretch model rules late old ids class qid longest start past) (sym same) w
stretch_goes model rules late old ids class qid longest start past from s (m ∷ steps) w goes waits short =
    let before = stretch_goes model rules late old ids class qid longest start past from m.before steps w goes.1.1 (All-tail (WaitsIn ids class qid) m steps waits)
    (All-tail (λ (m : Moment). AllRunAtMost longest (hosts_of m.before)) m steps short) in
    let here = All-head (WaitsIn ids class qid) m steps waits in
    subst (Stretch model rules late old ids class qid longest start past) goes.0
    (stretch_step model rules late old ids class qid longest start past m.before m.after m.told goes.1.0 here.ready here.passed here.among
    (All-head (λ (m : Moment). AllRunAtMost longest (hosts_of m.before)) m steps short) before)

all_first : {X : Type 0} (P : X → Type 0) (xs ys : List X) → All P (xs ++ ys) → All P xs
all_first P [] ys all = All-nil P
all_first P (x ∷ xs) ys all = All-cons P x xs (All-head P x (xs ++ ys) all) (all_first P xs ys (All-tail P x (xs ++ ys) all))

all_second : {X : Type 0} (P : X → Type 0) (xs ys : List X) → All P (xs ++ ys) → All P ys
all_second P [] ys all = all
all_second P (x ∷ xs) ys all = all_second P xs ys (All-tail P x (xs ++ ys) all)

stretch_begins : (model : Model) (rules : FrontRules) (late : Bool) (old : Notes) (ids : Class → List ℕ) (class : Class) (qid longest : ℕ) (s : Simulation) (r : Run model longest s)
    → StandsAt rules late old s → room_at s ≡ 0 → Stretch model rules late old ids class qid longest (time_of s) r.calls s
unfolding taken_behind
stretch_begins model rules late old ids class qid longest s r stands full = record {
  sim = r.sim;
  pauses = r.pauses;
  noted = record {
    turns = [];
    notes = old;
    stands = stands;
    history = refl;
    few = All-nil (λ (t : Turn). t.pick.n ≤ 1);
    among = All-nil (λ (t : Turn). IsAmong ids t.seen);
    waits = All-nil (λ (t : Turn). sees_ready_in class qid t ≡ true);
    passed = All-nil (λ (t : Turn). t.pick.qid ≢ qid);
  };
  calls = [];
  tracks = r.tracks;
  taken = refl;
  few = omega (arith, full);
  full = λ picks. full;
  busy = λ t from to. absurd (omega (arith, from, to));
}

-- the device is full behind a step that tells that none can be picked
full_where_settled : (model : Model) (longest : ℕ) (class : Class) (qid : ℕ) (a b : Simulation) → Run model longest a → HasStepped a b Settled → IsReady class qid a → room_at b ≡ 0
full_where_settled model longest class qid a b r s ready =
    ap (λ (m : Machine). room_of (device_in m.device)) s.plans ∙ settled_is_full a b r.sim s class qid ready

pub waits_of_runs_are_short : WaitsOfRunsAreShort
unfolding IsRun
waits_of_runs_are_short model ids class qid longest first from to next past steps w bound most =
    let settled : Moment = settles w.begin from in
    let old_short = all_second (λ (m : Moment). AllRunAtMost longest (hosts_of m.before)) steps (settled ∷ past) w.short in
    let begun_run = run_goes model longest first w.begin past (run_begins model longest first w.new w.pool w.goes_on w.settings) w.before.1.1
    (All-tail (λ (m : Moment). AllRunAtMost longest (hosts_of m.before)) settled past old_short) in
    let r = run_steps model longest w.begin from Settled w.before.1.0 (All-head (λ (m : Moment). AllRunAtMost longest (hosts_of m.before)) settled past old_short) begun_run in
    let full : room_at from ≡ 0 = full_where_settled model longest class qid w.begin from begun_run w.before.1.0 w.ready in
    let f = r.arranged.front in
    let stands : StandsAt f.rules false f.notes from = subst (λ (late : Bool). StandsAt f.rules late f.notes from) f.in_time f.stands in
    let begun = stretch_begins model f.rules false f.notes ids class qid longest from r stands full in
    let s = stretch_goes model f.rules false f.notes ids class qid longest (time_of from) r.calls from to steps begun w.run w.waits
    (all_first (λ (m : Moment). AllRunAtMost longest (hosts_of m.before)) steps (settled ∷ past) w.short) in
    let start : Device = pool_of model in
    let history : History = arbitration_of (logged f.notes) in
    let lawful : IsLimitedRun f.rules.mechanism f.rules.start.settings (arbitration_of (logged s.noted.notes)) = (s.noted.stands.account refl).lawful in
    let settings : settings_after model.settings history ≡ model.settings = ap (λ (x : ArbitrationFields). settings_after x history) (sym f.settings_are) ∙ r.arranged.settings in
    let run : IsLimitedRun model.mechanism model.settings (events_in s.noted.turns ++ history) =
    subst (λ (h : History). IsLimitedRun model.mechanism model.settings h) s.noted.history
    (subst (λ (x : ArbitrationFields). IsLimitedRun model.mechanism x (arbitration_of (logged s.noted.notes))) f.settings_are
    (subst (λ (m : Mechanism). IsLimitedRun m f.rules.start.settings (arbitration_of (logged s.noted.notes))) f.mechanism_is lawful)) in
    let ends = none_ends to next w.event w.comes w.still s.tracks.planned in
    let old_full : room_of (device_after start r.calls) ≡ 0 = ap room_of (sym r.tracks.device) ∙ full in
    let new_full : room_of (device_after start (s.calls ++ r.calls)) ≡ 0 = ap room_of (sym s.tracks.device) ∙ s.full w.still in
    let room = ends_make_room Pool (depth_of model) (count_of model) r.calls s.calls model.device.some old_full new_full in
    let ended = refilled_by Pool (depth_of model) (count_of model) (time_of from) (time_of next) r.calls s.calls model.device.some r.tracks.past
    (subst (NoneEndsBefore (time_of next)) s.tracks.device ends) in
    waits_are_short model.mechanism model.settings history ids 1 class qid s.noted.turns (runs_in start (s.calls ++ r.calls)) longest (least_of model) (time_of from) (time_of next)
    (record {
      picks = record { lawful = run; few = s.noted.few; among = s.noted.among; waits = s.noted.waits; passed = s.noted.passed };
      lasts = last_at_most longest Pool (depth_of model) (count_of model) (s.calls ++ r.calls) s.tracks.short;
      some = let channels = model.device.some in let depth = model.device.has in omega (arith, channels, depth);
      busy = λ t start_at until. stays_busy model longest (time_of from) to next w.event [] (s.calls ++ r.calls) w.comes s.tracks s.full s.busy t start_at until;
      refilled = omega (arith, ended, room, s.taken);
    }) bound (subst (λ (x : ArbitrationFields). most_before model.mechanism x (counts ids) 1 class ≡ Some bound) (sym settings) most)
