-- What runs on a device, by its calls.
use Rattle.std.proofs.Common.{◌≡◌, ℕ, ◌+◌, ◌<◌, ◌≤◌, ◌&&◌, ◌∷◌, [], ◌++◌, Bool, true, false, nat_lt, nat_le, cond, List, length, get_or, set, Option, Some, None, Result, Ok, Err, count_by, refl, ap, arith}
use Rattle.std.specs.Prelude.{All, min, remove}
use Rattle.std.proofs.lemmas.Bool.Decides.{nat_tests}
use Rattle.std.proofs.lemmas.List.Elements.{All-append, All-cons, All-head, All-nil, All-push, All-tail}
use Rattle.std.proofs.lemmas.List.Folds.{sum_by-replicate}
use Rattle.std.proofs.lemmas.List.Quantifiers.{position-Some}
use Rattle.std.proofs.lemmas.List.Sums.{sum_by-append, sum_by-cons, sum_by-set}
use Rattle.nvme_channels.specs.declared.channel.Channel.{Channel}
use Rattle.nvme_channels.specs.declared.channel.StepFault.{StepFault}
use Rattle.nvme_channels.specs.declared.channel.StepFault.TheVariants.{Early, NoChannel, NoCommand, NoRoom}
use Rattle.nvme_channels.specs.declared.channels.Start.{Start}
use Rattle.nvme_channels.specs.declared.channels.Waiting.{Waiting}
use Rattle.nvme_channels.specs.declared.placement.Placement.{Placement}
use Rattle.nvme_channels.specs.declared.placement.Placement.TheVariants.{Pool}
use Rattle.nvme_channels.specs.Channel.{begun, freed, is_idle, paused, resumed}
use Rattle.nvme_channels.specs.Devices.{Device, channel_at, first_for, idle, idle_in, new_device, room_of, running_in}
use Rattle.nvme_channels.specs.Reaches.{reach_of, reaches}
use Rattle.nvme_channels.specs.Runs.{Step, Take, Finish, Pause, Resume, answer_of, device_after, device_behind, now_of}
use Rattle.nvme_channels.specs.Steps.{Outcome, finish_of, next_for, none, pause_of, refill_at, refill_of, resume_of, start_of, take_at, take_of}
use Rattle.nvme_channels.proofs.Begun.{begun_is, either}
use Rattle.nvme_channels.proofs.Idle.{found, idle_rests, others}
use Rattle.nvme_channels.proofs.Steady.{Kept, kept_after, reach_within}
use Rattle.nvme_bounds.specs.DeviceRuns.{EndsFrom, NoneEndsBefore, TakesAtMost, runs_in, started}
use Rattle.nvme_bounds.specs.Pools.{GoesOn}
use Rattle.nvme_bounds.specs.Refills.{done, ended_behind, ends}
use Rattle.nvme_bounds.specs.Runs.{LastAtMost, Run, ends_between, runs_at}
use Rattle.nvme_bounds.proofs.Pools.{full_pools_run}

-- those that end at such times, and the commands that run until one of them
module _ (p : ℕ → Bool) where
  abbrev of_end : Run → Bool
  of_end r = p r.end

  abbrev still : Channel → Bool
  still c = c.running && p c.ends

  still_set : (channels : List Channel) (k : ℕ) (c : Channel) → k < length channels
      → count_by still (set channels k c) + cond (still (get_or channels k idle)) 1 0 ≡ count_by still channels + cond (still c) 1 0
  still_set channels k c l = sum_by-set (λ (c : Channel). cond (still c) 1 0) channels k c idle l

  rests_still : (c : Channel) → c.running ≡ false → ◌≡◌ {A = ℕ} (cond (still c) 1 0) 0
  rests_still c rests = ap (λ (b : Bool). cond (b && p c.ends) 1 0) rests

  runs_still : (c : Channel) → c.running ≡ true → ◌≡◌ {A = ℕ} (cond (still c) 1 0) (cond (p c.ends) 1 0)
  runs_still c runs = ap (λ (b : Bool). cond (b && p c.ends) 1 0) runs

  one_run : (r : Run) → count_by of_end (r ∷ []) ≡ cond (p r.end) 1 0
  one_run r = omega (arith, sum_by-cons (λ (r : Run). cond (of_end r) 1 0) r [])

  -- a command starts on a channel that becomes this where none starts
  abbrev Starts : (now : ℕ) (d : Device) (k : ℕ) (c : Channel) → Outcome → Type 0
  Starts now d k c (Err e, after) = after ≡ d
  Starts now d k c (Ok s, after) =
      count_by of_end (started now (Ok s)) + count_by still d.channels + cond (still c) 1 0 ≡ count_by still after.channels + cond (still (channel_at d k)) 1 0

  start_still : (now service number k : ℕ) (c : Channel) (left : List Waiting) (d : Device) → k < length d.channels → c.running ≡ false
      → (r : Result Channel StepFault) → begun now service c ≡ r → Starts now d k c (start_of number k left d r)
  start_still now service number k c left d l rests (Err e) is = refl
  start_still now service number k c left d l rests (Ok b) is =
      let sum = still_set d.channels k b l in
      let runs = runs_still b (begun_is now service c b is).0 in
      let rested = rests_still c rests in
      let one = one_run (record { start = now; end = b.ends }) in
      omega (arith, sum, runs, rested, one)

  refill_still : (now k : ℕ) (c : Channel) (d : Device) → k < length d.channels → Starts now d k c (refill_of now k c d)
  refill_still now k c d l = at (next_for k c d) refl
    where
      rests : (i : ℕ) → next_for k c d ≡ Some i → (b : Bool) → is_idle c ≡ b → c.running ≡ false
      rests i e true t = idle_rests c t
      rests i e false t = let e' : None ≡ Some i = rw t at e in absurd cc

      at : (o : Option ℕ) → next_for k c d ≡ o → Starts now d k c (refill_at now k c d o)
      at None e = let sum = still_set d.channels k c l in omega (arith, sum)
      at (Some i) e =
          let w = get_or d.waiting i none in
          start_still now w.service w.number k c (remove d.waiting i) d l (rests i e (is_idle c) refl) (begun now w.service c) refl

  -- how many end at such times in a call
  abbrev ends_at : Step → Device → ℕ
  ends_at (Take now number block service) d = 0
  ends_at (Finish now k) d = cond (p (channel_at d k).ends) (done (finish_of now k d).0) 0
  ends_at (Pause k) d = 0
  ends_at (Resume now k) d = 0

  abbrev Adds : (now : ℕ) (d : Device) (ended : ℕ) → Outcome → Type 0
  Adds now d ended o = count_by of_end (started now o.0) + count_by still d.channels ≡ count_by still o.1.channels + ended

  take_adds : (now number block service : ℕ) (d : Device) → Kept d → Adds now d 0 (take_of now number block service d)
  take_adds now number block service d kept =
      let reach = reach_of d.placement (length d.channels) block in
      let w : Waiting = record { number = number; service = service; reach = reach } in
      either (Adds now d 0) (nat_lt 0 (room_of d)) _ _
      (λ t. at w (reach_within d.placement (length d.channels) block kept.some) (idle_in d.channels reach) refl) (λ t. omega arith)
    where
      begins : (w : Waiting) (k : ℕ) → (channel_at d k).running ≡ false → (o : Outcome) → Starts now d k (channel_at d k) o → Adds now d 0 o
      begins w k rests (Err e, after) s = rw s (omega arith)
      begins w k rests (Ok x, after) s = let rested = rests_still (channel_at d k) rests in omega (arith, s, rested)

      at : (w : Waiting) → w.reach.end ≤ length d.channels → (o : Option ℕ) → idle_in d.channels w.reach ≡ o → Adds now d 0 (take_at now w d o)
      at w within None e = omega arith
      at w within (Some k) e =
          let there = found d.channels w.reach k within e in
          let rests = idle_rests (channel_at d k) there.1 in
          begins w k rests (start_of w.number k d.waiting d (begun now w.service (channel_at d k)))
          (start_still now w.service w.number k (channel_at d k) d.waiting d there.0 rests (begun now w.service (channel_at d k)) refl)

  no_cond : (b : Bool) → ◌≡◌ {A = ℕ} (cond b 0 0) 0
  no_cond true = refl
  no_cond false = refl

  abbrev Finishes : (now k : ℕ) (d : Device) → Outcome → Type 0
  Finishes now k d o = Adds now d (cond (p (channel_at d k).ends) (done o.0) 0) o

  finish_adds : (now k : ℕ) (d : Device) → Adds now d (ends_at (Finish now k) d) (finish_of now k d)
  finish_adds now k d =
      let c = channel_at d k in
      either (Finishes now k d) (nat_lt k (length d.channels)) _ _ (λ t. either (Finishes now k d) c.running _ _ (λ r. either (Finishes now k d) (nat_lt now c.ends) _ _ (λ early. refused Early) (λ late.
      let l : k < length d.channels = grind (arith, nat_tests) in ended (refill_of now k (freed c) d) r (refill_still now k (freed c) d l))) (λ r. refused NoCommand)) (λ t. refused NoChannel)
    where
      refused : (e : StepFault) → Finishes now k d (Err e, d)
      refused e = omega (arith, no_cond (p (channel_at d k).ends))

      ended : (o : Outcome) → (channel_at d k).running ≡ true → Starts now d k (freed (channel_at d k)) o → Finishes now k d o
      ended (Err e, after) runs s = rw s (omega (arith, no_cond (p (channel_at d k).ends)))
      ended (Ok x, after) runs s = let one = runs_still (channel_at d k) runs in omega (arith, s, one)

  resume_adds : (now k : ℕ) (d : Device) → Adds now d 0 (resume_of now k d)
  resume_adds now k d =
      either (Adds now d 0) (nat_lt k (length d.channels)) _ _ (λ t.
      let l : k < length d.channels = grind (arith, nat_tests) in goes (refill_of now k (resumed (channel_at d k)) d) (refill_still now k (resumed (channel_at d k)) d l)) (λ t. omega arith)
    where
      goes : (o : Outcome) → Starts now d k (resumed (channel_at d k)) o → Adds now d 0 o
      goes (Err e, after) s = rw s (omega arith)
      goes (Ok x, after) s = omega (arith, s)

  pause_adds : (k : ℕ) (d : Device) → count_by still d.channels ≡ count_by still (pause_of k d).1.channels
  pause_adds k d = go (nat_lt k (length d.channels)) refl
    where
      go : (b : Bool) → nat_lt k (length d.channels) ≡ b → count_by still d.channels ≡ count_by still (pause_of k d).1.channels
      go true t =
          let l : k < length d.channels = grind (arith, nat_tests) in
          let sum = still_set d.channels k (paused (channel_at d k)) l in
          rw t (omega (arith, sum))
      go false t = rw t refl

  step_adds : (step : Step) (d : Device) → Kept d
      → count_by of_end (started (now_of step) (answer_of step d)) + count_by still d.channels ≡ count_by still (device_behind step d).channels + ends_at step d
  step_adds (Take now number block service) d kept = take_adds now number block service d kept
  step_adds (Finish now k) d kept = finish_adds now k d
  step_adds (Pause k) d kept = omega (arith, pause_adds k d)
  step_adds (Resume now k) d kept = resume_adds now k d

  -- how many ended at such times
  unfoldable ended_in : Device → List Step → ℕ
  ended_in start [] = 0
  ended_in start (step ∷ past) = ends_at step (device_after start past) + ended_in start past

  -- each that started runs or has ended
  all_runs : (placement : Placement) (depth count : ℕ) → 0 < count → (calls : List Step)
      → count_by of_end (runs_in (new_device placement depth count) calls)
      ≡ count_by still (device_after (new_device placement depth count) calls).channels + ended_in (new_device placement depth count) calls
  unfolding runs_in device_after ended_in
  all_runs placement depth count some [] = omega (arith, sum_by-replicate (λ (c : Channel). cond (still c) 1 0) count idle)
  all_runs placement depth count some (step ∷ past) =
      let start = new_device placement depth count in
      let d = device_after start past in
      let ih = all_runs placement depth count some past in
      let here = step_adds step d (kept_after placement depth count some past) in
      let parts = sum_by-append (λ (r : Run). cond (of_end r) 1 0) (started (now_of step) (answer_of step d)) (runs_in start past) in
      omega (arith, ih, here, parts)

  fewer : (b : Bool) (n : ℕ) → cond b n 0 ≤ n
  fewer true n = omega arith
  fewer false n = omega arith

  step_ends : (step : Step) (d : Device) → ends_at step d ≤ ends step d
  step_ends (Take now number block service) d = omega arith
  step_ends (Finish now k) d = fewer (p (channel_at d k).ends) (done (finish_of now k d).0)
  step_ends (Pause k) d = omega arith
  step_ends (Resume now k) d = omega arith

  ended_few : (start : Device) (past calls : List Step) → ended_in start (calls ++ past) ≤ ended_behind start past calls + ended_in start past
  unfolding ended_in ended_behind
  ended_few start past [] = omega arith
  ended_few start past (step ∷ rest) =
      let ih = ended_few start past rest in
      let here = step_ends step (device_after start (rest ++ past)) in
      omega (arith, ih, here)

-- ---- while a pool is full
count_here : {X : Type 0} (p : X → Bool) (x : X) (rest : List X) → count_by p (x ∷ rest) ≡ cond (p x) 1 0 + count_by p rest
count_here p x rest = sum_by-cons (λ x. cond (p x) 1 0) x rest

-- what runs until later than a time
all_still : (t : ℕ) (channels : List Channel) → All (EndsFrom (t + 1)) channels → count_by (λ c. c.running && nat_lt t c.ends) channels ≡ count_by (λ c. c.running) channels
all_still t [] later = refl
all_still t (c ∷ rest) later =
    let ih = all_still t rest (All-tail (EndsFrom (t + 1)) c rest later) in
    let here = one (All-head (EndsFrom (t + 1)) c rest later) c.running refl in
    omega (arith, ih, here, count_here (λ c. c.running && nat_lt t c.ends) c rest, count_here (λ c. c.running) c rest)
  where
    one : EndsFrom (t + 1) c → (b : Bool) → c.running ≡ b → ◌≡◌ {A = ℕ} (cond (c.running && nat_lt t c.ends) 1 0) (cond c.running 1 0)
    one from false is = rw is refl
    one from true is =
        let late : t + 1 ≤ c.ends = from is in
        let test : nat_lt t c.ends ≡ true = grind (arith, nat_tests) in
        rw (is, test) refl

-- all started by then
starts_count : (t now : ℕ) (answer : Result (Option Start) StepFault) → now ≤ t
    → count_by (λ r. nat_lt t r.end) (started now answer) ≡ count_by (runs_at t) (started now answer)
starts_count t now (Err e) by = refl
starts_count t now (Ok None) by = refl
starts_count t now (Ok (Some s)) by =
    let test : nat_le now t ≡ true = grind (arith, nat_tests) in rw test refl

runs_count : (start : Device) (t : ℕ) (calls : List Step) → All (λ s. now_of s ≤ t) calls
    → count_by (λ r. nat_lt t r.end) (runs_in start calls) ≡ count_by (runs_at t) (runs_in start calls)
unfolding runs_in
runs_count start t [] by = refl
runs_count start t (step ∷ past) by =
    let xs = started (now_of step) (answer_of step (device_after start past)) in
    let ih = runs_count start t past (All-tail (λ (s : Step). now_of s ≤ t) step past by) in
    let here = starts_count t (now_of step) (answer_of step (device_after start past)) (All-head (λ (s : Step). now_of s ≤ t) step past by) in
    let first = sum_by-append (λ (r : Run). cond (nat_lt t r.end) 1 0) xs (runs_in start past) in
    let second = sum_by-append (λ (r : Run). cond (runs_at t r) 1 0) xs (runs_in start past) in
    omega (arith, ih, here, first, second)

pub more_runs : (q : Run → Bool) (start : Device) (later calls : List Step) → count_by q (runs_in start calls) ≤ count_by q (runs_in start (later ++ calls))
unfolding runs_in
more_runs q start [] calls = omega arith
more_runs q start (step ∷ later) calls =
    let ih = more_runs q start later calls in
    let parts = sum_by-append (λ (r : Run). cond (q r) 1 0) (started (now_of step) (answer_of step (device_after start (later ++ calls)))) (runs_in start (later ++ calls)) in
    omega (arith, ih, parts)

pub busy_at : (depth count t : ℕ) (later calls : List Step) → 0 < count → All GoesOn calls → room_of (device_after (new_device Pool depth count) calls) ≡ 0
    → All (λ s. now_of s ≤ t) calls → NoneEndsBefore (t + 1) (device_after (new_device Pool depth count) calls)
    → min count depth ≤ count_by (runs_at t) (runs_in (new_device Pool depth count) (later ++ calls))
busy_at depth count t later calls some on full by none =
    let start = new_device Pool depth count in
    let d = device_after start calls in
    let run : min count depth ≤ running_in d = full_pools_run depth count calls some on full in
    let all = all_runs (λ e. nat_lt t e) Pool depth count some calls in
    let long = all_still t d.channels none in
    let begun = runs_count start t calls by in
    let more = more_runs (runs_at t) start later calls in
    omega (arith, run, all, long, begun, more)

-- ---- between two times
none_still : (from to : ℕ) (channels : List Channel) → All (EndsFrom to) channels → count_by (λ c. c.running && (nat_lt from c.ends && nat_lt c.ends to)) channels ≡ 0
none_still from to [] later = refl
none_still from to (c ∷ rest) later =
    let ih = none_still from to rest (All-tail (EndsFrom to) c rest later) in
    let here = one (All-head (EndsFrom to) c rest later) c.running refl in
    omega (arith, ih, here, count_here (λ c. c.running && (nat_lt from c.ends && nat_lt c.ends to)) c rest)
  where
    both : (a : Bool) → (a && false) ≡ false
    both true = refl
    both false = refl

    one : EndsFrom to c → (b : Bool) → c.running ≡ b → ◌≡◌ {A = ℕ} (cond (c.running && (nat_lt from c.ends && nat_lt c.ends to)) 1 0) 0
    one late false is = rw is refl
    one late true is =
        let past : to ≤ c.ends = late is in
        let test : nat_lt c.ends to ≡ false = grind (arith, nat_tests) in
        rw (is, test) (ap (λ (b : Bool). cond b 1 0) (both (nat_lt from c.ends)))

-- none ended later than a time, where all calls were made before it
abbrev NoneLater : (from to k : ℕ) (d : Device) → Outcome → Type 0
NoneLater from to k d o = ◌≡◌ {A = ℕ} (cond (nat_lt from (channel_at d k).ends && nat_lt (channel_at d k).ends to) (done o.0) 0) 0

early : (from to now k : ℕ) (d : Device) → now ≤ from → ◌≡◌ {A = ℕ} (cond (nat_lt from (channel_at d k).ends && nat_lt (channel_at d k).ends to) (done (finish_of now k d).0) 0) 0
early from to now k d by =
    either (NoneLater from to k d) (nat_lt k (length d.channels)) _ _ (λ t. either (NoneLater from to k d) (channel_at d k).running _ _ (λ r. either (NoneLater from to k d) (nat_lt now (channel_at d k).ends) _ _ (λ early. refused Early) (λ late.
    let test : nat_lt from (channel_at d k).ends ≡ false = grind (arith, nat_tests) in rw test refl)) (λ r. refused NoCommand)) (λ t. refused NoChannel)
  where
    refused : (e : StepFault) → NoneLater from to k d (Err e, d)
    refused e = no_cond (λ e. nat_lt from e && nat_lt e to) (nat_lt from (channel_at d k).ends && nat_lt (channel_at d k).ends to)

step_early : (from to : ℕ) (step : Step) (d : Device) → now_of step ≤ from → ends_at (λ e. nat_lt from e && nat_lt e to) step d ≡ 0
step_early from to (Take now number block service) d by = refl
step_early from to (Finish now k) d by = early from to now k d by
step_early from to (Pause k) d by = refl
step_early from to (Resume now k) d by = refl

none_ended : (from to : ℕ) (start : Device) (past : List Step) → All (λ s. now_of s ≤ from) past → ended_in (λ e. nat_lt from e && nat_lt e to) start past ≡ 0
unfolding ended_in
none_ended from to start [] by = refl
none_ended from to start (step ∷ past) by =
    let ih = none_ended from to start past (All-tail (λ (s : Step). now_of s ≤ from) step past by) in
    let here = step_early from to step (device_after start past) (All-head (λ (s : Step). now_of s ≤ from) step past by) in
    omega (arith, ih, here)

-- what ended between was ended by the calls between
pub refilled_by : (placement : Placement) (depth count from to : ℕ) (past calls : List Step) → 0 < count → All (λ s. now_of s ≤ from) past
    → NoneEndsBefore to (device_after (new_device placement depth count) (calls ++ past))
    → count_by (ends_between from to) (runs_in (new_device placement depth count) (calls ++ past)) ≤ ended_behind (new_device placement depth count) past calls
refilled_by placement depth count from to past calls some by none =
    let start = new_device placement depth count in
    let p : ℕ → Bool = λ e. nat_lt from e && nat_lt e to in
    let all = all_runs p placement depth count some (calls ++ past) in
    let still = none_still from to (device_after start (calls ++ past)).channels none in
    let few = ended_few p start past calls in
    let old = none_ended from to start past by in
    omega (arith, all, still, few, old)

-- ---- how long they run
abbrev Serves : (longest : ℕ) → Waiting → Type 0
Serves longest w = w.service ≤ longest

abbrev Lasts : (longest : ℕ) → Run → Type 0
Lasts longest r = r.end ≤ r.start + longest

-- what starts behind a call, and what waits then
record Short (longest now : ℕ) (o : Outcome) : Type 0 where
  pub starts : All (Lasts longest) (started now o.0)
  pub waits : All (Serves longest) o.1.waiting

start_short : (longest now service number k : ℕ) (c : Channel) (left : List Waiting) (d : Device) → service ≤ longest → All (Serves longest) left → All (Serves longest) d.waiting
    → (r : Result Channel StepFault) → begun now service c ≡ r → Short longest now (start_of number k left d r)
start_short longest now service number k c left d few rest all (Err e) is = record { starts = All-nil (Lasts longest); waits = all }
start_short longest now service number k c left d few rest all (Ok b) is =
    let ends = (begun_is now service c b is).2 in
    record {
      starts = All-cons (Lasts longest) (record { start = now; end = b.ends }) [] (omega (arith, few, ends)) (All-nil (Lasts longest));
      waits = rest;
    }

refill_short : (longest now k : ℕ) (c : Channel) (d : Device) → All (Serves longest) d.waiting → Short longest now (refill_of now k c d)
refill_short longest now k c d all = at (next_for k c d) refl
  where
    within : (i : ℕ) → next_for k c d ≡ Some i → (b : Bool) → is_idle c ≡ b → i < length d.waiting
    within i e true t = let e' : first_for d.waiting k ≡ Some i = rw t at e in (position-Some (λ (w : Waiting). reaches w.reach k) d.waiting i none e').0
    within i e false t = let e' : None ≡ Some i = rw t at e in absurd cc

    at : (o : Option ℕ) → next_for k c d ≡ o → Short longest now (refill_at now k c d o)
    at None e = record { starts = All-nil (Lasts longest); waits = all }
    at (Some i) e =
        let w = get_or d.waiting i none in
        start_short longest now w.service w.number k c (remove d.waiting i) d (all i none (within i e (is_idle c) refl)) (others (Serves longest) d.waiting i all) all
        (begun now w.service c) refl

refused_short : (longest now : ℕ) (d : Device) (e : StepFault) → All (Serves longest) d.waiting → Short longest now (Err e, d)
refused_short longest now d e all = record { starts = All-nil (Lasts longest); waits = all }

take_short : (longest now number block service : ℕ) (d : Device) → service ≤ longest → All (Serves longest) d.waiting → Short longest now (take_of now number block service d)
take_short longest now number block service d few all =
    let reach = reach_of d.placement (length d.channels) block in
    let w : Waiting = record { number = number; service = service; reach = reach } in
    either (Short longest now) (nat_lt 0 (room_of d)) _ _ (λ t. at w few (idle_in d.channels reach)) (λ t. refused_short longest now d NoRoom all)
  where
    at : (w : Waiting) → w.service ≤ longest → (o : Option ℕ) → Short longest now (take_at now w d o)
    at w few None = record { starts = All-nil (Lasts longest); waits = All-push (Serves longest) d.waiting w all few }
    at w few (Some k) = start_short longest now w.service w.number k (channel_at d k) d.waiting d few all all (begun now w.service (channel_at d k)) refl

step_short : (longest : ℕ) (step : Step) (d : Device) → TakesAtMost longest step → All (Serves longest) d.waiting
    → All (Lasts longest) (started (now_of step) (answer_of step d)) × All (Serves longest) (device_behind step d).waiting
step_short longest (Take now number block service) d few all = let s = take_short longest now number block service d few all in (s.starts, s.waits)
step_short longest (Finish now k) d few all =
    let s : Short longest now (finish_of now k d) =
    either (Short longest now) (nat_lt k (length d.channels)) _ _ (λ t. either (Short longest now) (channel_at d k).running _ _ (λ r. either (Short longest now) (nat_lt now (channel_at d k).ends) _ _ (λ early. refused_short longest now d Early all) (λ late. refill_short longest now k (freed (channel_at d k)) d all)) (λ r. refused_short longest now d NoCommand all)) (λ t. refused_short longest now d NoChannel all) in
    (s.starts, s.waits)
step_short longest (Pause k) d few all = (All-nil (Lasts longest), paused_waits (nat_lt k (length d.channels)) refl)
  where
    paused_waits : (b : Bool) → nat_lt k (length d.channels) ≡ b → All (Serves longest) (pause_of k d).1.waiting
    paused_waits true t = rw t all
    paused_waits false t = rw t all
step_short longest (Resume now k) d few all =
    let s : Short longest now (resume_of now k d) =
    either (Short longest now) (nat_lt k (length d.channels)) _ _ (λ t. refill_short longest now k (resumed (channel_at d k)) d all) (λ t. refused_short longest now d NoChannel all) in
    (s.starts, s.waits)

all_short : (longest : ℕ) (placement : Placement) (depth count : ℕ) (calls : List Step) → All (TakesAtMost longest) calls
    → LastAtMost longest (runs_in (new_device placement depth count) calls) × All (Serves longest) (device_after (new_device placement depth count) calls).waiting
unfolding runs_in device_after
all_short longest placement depth count [] few = (All-nil (Lasts longest), All-nil (Serves longest))
all_short longest placement depth count (step ∷ past) few =
    let start = new_device placement depth count in
    let ih = all_short longest placement depth count past (All-tail (TakesAtMost longest) step past few) in
    let here = step_short longest step (device_after start past) (All-head (TakesAtMost longest) step past few) ih.1 in
    (All-append (Lasts longest) (started (now_of step) (answer_of step (device_after start past))) (runs_in start past) here.0 ih.0, here.1)

pub last_at_most : (longest : ℕ) (placement : Placement) (depth count : ℕ) (calls : List Step) → All (TakesAtMost longest) calls
    → LastAtMost longest (runs_in (new_device placement depth count) calls)
last_at_most longest placement depth count calls few = (all_short longest placement depth count calls few).0
