-- A full pool that doesn't pause runs commands on all its channels, or all that it may have.
use Rattle.std.proofs.Common.{◌≡◌, ℕ, zero, suc, ◌+◌, ◌<◌, ◌≤◌, ◌&&◌, ◌||◌, ◌∷◌, [], Bool, true, false, not, nat_lt, nat_le, cond, List, length, get_or, set, Option, Some, None, Result, Ok, Err, count_by, min, replicate, refl, sym, ap, subst, ◌∙◌, arith}
use Rattle.std.specs.Prelude.{All, remove}
use Rattle.std.proofs.lemmas.Bool.Decides.{nat_tests}
use Rattle.std.proofs.lemmas.List.{get_or_default, length-replicate, length-set}
use Rattle.std.proofs.lemmas.List.Elements.{All-cons, All-head, All-tail, All-nil, All-push, All-set}
use Rattle.std.proofs.lemmas.List.Sums.{sum_by-cons}
use Rattle.nvme_channels.specs.declared.channel.Channel.{Channel}
use Rattle.nvme_channels.specs.declared.channel.StepFault.{StepFault}
use Rattle.nvme_channels.specs.declared.channel.StepFault.TheVariants.{Early, TooLate}
use Rattle.nvme_channels.specs.declared.channels.Waiting.{Waiting}
use Rattle.nvme_channels.specs.declared.placement.Placement.{Placement}
use Rattle.nvme_channels.specs.declared.placement.Placement.TheVariants.{Pool}
use Rattle.nvme_channels.specs.declared.placement.Reach.{Reach}
use Rattle.nvme_channels.specs.Channel.{begun, freed, is_idle, resumed}
use Rattle.nvme_channels.specs.Devices.{Device, channel_at, idle, idle_in, new_device, room_of, running_in}
use Rattle.nvme_channels.specs.Laws.{IsSteady, NoneIdle}
use Rattle.nvme_channels.specs.Reaches.{reach_of, reaches}
use Rattle.nvme_channels.specs.Runs.{Step, Take, Finish, Pause, Resume, device_after, device_behind}
use Rattle.nvme_channels.specs.Steps.{finish_of, next_for, none, refill_at, refill_of, resume_of, start_of, take_at, take_of}
use Rattle.nvme_channels.proofs.Begun.{either}
use Rattle.nvme_channels.proofs.Idle.{others}
use Rattle.nvme_channels.proofs.Steady.{steady}
use Rattle.nvme_bounds.specs.Pools.{FullPoolsRun, GoesOn}

whole : ℕ → Reach
whole count = record { first = 0; end = count }

-- a pool of so many channels, none of which is paused
record IsPool (depth count : ℕ) (d : Device) : Type 0 where
  pub placement : d.placement ≡ Pool
  pub holds : d.depth ≡ depth
  pub has : length d.channels ≡ count
  pub on_all : All (λ c. c.paused ≡ false) d.channels
  pub reach : All (λ w. w.reach ≡ whole count) d.waiting

open_at : (channels : List Channel) (k : ℕ) → All (λ c. c.paused ≡ false) channels → (get_or channels k idle).paused ≡ false
open_at [] k a = refl
open_at (c ∷ rest) zero a = All-head (λ (c : Channel). c.paused ≡ false) c rest a
open_at (c ∷ rest) (suc k) a = open_at rest k (All-tail (λ (c : Channel). c.paused ≡ false) c rest a)

begun_open : (now service : ℕ) (c b : Channel) → begun now service c ≡ Ok b → b.paused ≡ c.paused
begun_open now service c b e = go (nat_lt now c.ends) (nat_lt (now + service) 0x1_0000_0000_0000_0000) e
  where
    go : (u v : Bool) → cond u (Err Early) (cond v (Ok (record { running = true; paused = c.paused; ends = now + service; busy = c.busy + service })) (Err TooLate)) ≡ Ok b → b.paused ≡ c.paused
    go true v e = cc
    go false true e =
        let same : record { running = true; paused = c.paused; ends = now + service; busy = c.busy + service } ≡ b = cc in
        rw (← same) refl
    go false false e = cc

pool_reach : (p : Placement) (n count block : ℕ) → p ≡ Pool → n ≡ count → reach_of p n block ≡ whole count
unfolding whole
pool_reach p n count block e f = rw (e, f) refl

started : (depth count number k : ℕ) (left : List Waiting) (d : Device) (r : Result Channel StepFault) → IsPool depth count d → All (λ w. w.reach ≡ whole count) left
    → ((c : Channel) → r ≡ Ok c → c.paused ≡ false) → IsPool depth count (start_of number k left d r).1
started depth count number k left d (Err e) is reach f = is
started depth count number k left d (Ok c) is reach f =
    record { placement = is.placement; holds = is.holds; has = length-set d.channels k c ∙ is.has; on_all = All-set (λ (c : Channel). c.paused ≡ false) d.channels k c (f c refl) is.on_all; reach = reach }

taken : (depth count now number block service : ℕ) (d : Device) → IsPool depth count d → IsPool depth count (take_of now number block service d).1
taken depth count now number block service d is =
    let reach = reach_of d.placement (length d.channels) block in
    let w : Waiting = record { number = number; service = service; reach = reach } in
    either (λ o. IsPool depth count o.1) (nat_lt 0 (room_of d)) _ _ (λ t. at w (pool_reach d.placement (length d.channels) count block is.placement is.has) (idle_in d.channels reach)) (λ t. is)
  where
    at : (w : Waiting) → w.reach ≡ whole count → (o : Option ℕ) → IsPool depth count (take_at now w d o).1
    at w e None = record { placement = is.placement; holds = is.holds; has = is.has; on_all = is.on_all; reach = All-push (λ (w : Waiting). w.reach ≡ whole count) d.waiting w is.reach e }
    at w e (Some k) = started depth count w.number k d.waiting d (begun now w.service (channel_at d k)) is is.reach (λ c b. begun_open now w.service (channel_at d k) c b ∙ open_at d.channels k is.on_all)

refilled : (depth count now k : ℕ) (c : Channel) (d : Device) → IsPool depth count d → c.paused ≡ false → IsPool depth count (refill_of now k c d).1
refilled depth count now k c d is on_all = at (next_for k c d)
  where
    at : (o : Option ℕ) → IsPool depth count (refill_at now k c d o).1
    at None = record { placement = is.placement; holds = is.holds; has = length-set d.channels k c ∙ is.has; on_all = All-set (λ (c : Channel). c.paused ≡ false) d.channels k c on_all is.on_all; reach = is.reach }
    at (Some i) =
        let w = get_or d.waiting i none in
        started depth count w.number k (remove d.waiting i) d (begun now w.service c) is (others (λ (w : Waiting). w.reach ≡ whole count) d.waiting i is.reach) (λ b e. begun_open now w.service c b e ∙ on_all)

stepped : (depth count : ℕ) (step : Step) (d : Device) → GoesOn step → IsPool depth count d → IsPool depth count (device_behind step d)
stepped depth count (Take now number block service) d on is = taken depth count now number block service d is
stepped depth count (Finish now k) d on is =
    either (λ o. IsPool depth count o.1) (nat_lt k (length d.channels)) _ _ (λ t. either (λ o. IsPool depth count o.1) (channel_at d k).running _ _ (λ r. either (λ o. IsPool depth count o.1) (nat_lt now (channel_at d k).ends) _ _ (λ early. is) (λ late. refilled depth count now k (freed (channel_at d k)) d is (open_at d.channels k is.on_all))) (λ r. is)) (λ t. is)
stepped depth count (Pause k) d on is = absurd on
stepped depth count (Resume now k) d on is =
    either (λ o. IsPool depth count o.1) (nat_lt k (length d.channels)) _ _ (λ t. refilled depth count now k (resumed (channel_at d k)) d is refl) (λ t. is)

all_idle : (count : ℕ) → All (λ c. c.paused ≡ false) (replicate count idle)
all_idle zero = All-nil (λ (c : Channel). c.paused ≡ false)
all_idle (suc count) = All-cons (λ (c : Channel). c.paused ≡ false) idle (replicate count idle) refl (all_idle count)

pool_after : (depth count : ℕ) (past : List Step) → All GoesOn past → IsPool depth count (device_after (new_device Pool depth count) past)
unfolding device_after
pool_after depth count [] on = record { placement = refl; holds = refl; has = length-replicate count idle; on_all = all_idle count; reach = All-nil (λ (w : Waiting). w.reach ≡ whole count) }
pool_after depth count (step ∷ past) on =
    stepped depth count step (device_after (new_device Pool depth count) past) (All-head GoesOn step past on) (pool_after depth count past (All-tail GoesOn step past on))

-- all run
all_run : (channels : List Channel) → All (λ c. c.running ≡ true) channels → count_by (λ c. c.running) channels ≡ length channels
all_run [] a = refl
all_run (c ∷ rest) a =
    let ih = all_run rest (All-tail (λ (c : Channel). c.running ≡ true) c rest a) in
    let here = ap (λ (b : Bool). cond b 1 0 + count_by (λ (c : Channel). c.running) rest) (All-head (λ (c : Channel). c.running ≡ true) c rest a) in
    omega (arith, ih, here, sum_by-cons (λ (c : Channel). cond c.running 1 0) c rest)

runs : (running paused : Bool) → not (running || paused) ≡ false → paused ≡ false → running ≡ true
runs true paused e f = refl
runs false true e f = absurd cc
runs false false e f = absurd cc

none_idle : (count : ℕ) (channels : List Channel) (r : Reach) → length channels ≡ count → r ≡ whole count → All (λ c. c.paused ≡ false) channels → NoneIdle channels r → All (λ c. c.running ≡ true) channels
unfolding whole
none_idle count channels r n e on_all busy k x l =
    let within : k < count = omega (arith, n, l) in
    let reached : reaches r k ≡ true = rw e (grind (arith, nat_tests)) in
    let c = get_or channels k idle in
    let here : c.running ≡ true = runs c.running c.paused (busy k l reached) (on_all k idle l) in
    subst (λ (c : Channel). c.running ≡ true) (get_or_default channels k idle x l) here

pub full_pools_run : FullPoolsRun
full_pools_run depth count past some on full =
    let d = device_after (new_device Pool depth count) past in
    by d (pool_after depth count past on) (steady Pool depth count some past) full
  where
    of_waiting : (d : Device) → IsPool depth count d → IsSteady d → room_of d ≡ 0 → (waiting : List Waiting) → d.waiting ≡ waiting → min count depth ≤ running_in d
    of_waiting d is s full [] e =
        let none : length d.waiting ≡ 0 = ap length e in
        omega (arith, none, full, s.has_depth, is.holds)
    of_waiting d is s full (w ∷ rest) e =
        let reach : w.reach ≡ whole count = All-head (λ (w : Waiting). w.reach ≡ whole count) w rest (subst (All (λ (w : Waiting). w.reach ≡ whole count)) e is.reach) in
        let busy : NoneIdle d.channels w.reach = All-head (λ (w : Waiting). NoneIdle d.channels w.reach) w rest (subst (All (λ (w : Waiting). NoneIdle d.channels w.reach)) e s.conserves_work) in
        let all = all_run d.channels (none_idle count d.channels w.reach is.has reach is.on_all busy) in
        omega (arith, all, is.has)

    by : (d : Device) → IsPool depth count d → IsSteady d → room_of d ≡ 0 → min count depth ≤ running_in d
    by d is s full = of_waiting d is s full d.waiting refl
