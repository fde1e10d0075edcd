-- What a device takes and what ends there keeps the sum of those that run and that wait.
use Rattle.std.proofs.Common.{◌≡◌, ℕ, zero, suc, ◌+◌, ◌<◌, ◌≤◌, ◌&&◌, ◌||◌, ◌∷◌, [], ◌++◌, Bool, true, false, not, nat_lt, cond, List, length, get_or, set, Option, Some, None, Result, Ok, Err, count_by, refl, sym, ap, subst, ◌∙◌, arith}
use Rattle.std.specs.Prelude.{All, remove}
use Rattle.std.proofs.lemmas.Bool.Decides.{nat_tests}
use Rattle.std.proofs.lemmas.List.{length-append, length-set}
use Rattle.std.proofs.lemmas.List.Edits.{length-remove}
use Rattle.std.proofs.lemmas.List.Quantifiers.{position-Some}
use Rattle.std.proofs.lemmas.List.Sums.{sum_by-set}
use Rattle.nvme_channels.specs.declared.channel.Channel.{Channel}
use Rattle.nvme_channels.specs.declared.channel.StepFault.{StepFault}
use Rattle.nvme_channels.specs.declared.channels.Start.{Start}
use Rattle.nvme_channels.specs.declared.channels.Waiting.{Waiting}
use Rattle.nvme_channels.specs.declared.placement.Placement.{Placement}
use Rattle.nvme_channels.specs.Channel.{begun, freed, is_idle, paused, resumed}
use Rattle.nvme_channels.specs.Devices.{Device, channel_at, first_for, idle, idle_in, new_device, room_of, running_in}
use Rattle.nvme_channels.specs.Laws.{IsSteady}
use Rattle.nvme_channels.specs.Reaches.{reach_of, reaches}
use Rattle.nvme_channels.specs.Runs.{Step, Take, Finish, Pause, Resume, device_after, device_behind}
use Rattle.nvme_channels.specs.Steps.{Outcome, finish_of, next_for, none, pause_of, refill_at, refill_of, resume_of, start_of, take_at, take_of}
use Rattle.nvme_channels.proofs.Begun.{begun_is, either}
use Rattle.nvme_channels.proofs.Idle.{found, idle_rests}
use Rattle.nvme_channels.proofs.Steady.{Kept, kept_after, reach_within, steady}
use Rattle.nvme_bounds.specs.Refills.{EndsMakeRoom, done, ended_behind, ends, taken_behind, takes}

-- the commands that it has
held : Device → ℕ
held d = running_in d + length d.waiting

running_set : (channels : List Channel) (k : ℕ) (c : Channel) → k < length channels
    → count_by (λ c. c.running) (set channels k c) + cond (get_or channels k idle).running 1 0 ≡ count_by (λ c. c.running) channels + cond c.running 1 0
running_set channels k c l = sum_by-set (λ (c : Channel). cond c.running 1 0) channels k c idle l

-- a command takes one more, where its channel rested
take_holds : (now number block service : ℕ) (d : Device) → Kept d → held (take_of now number block service d).1 ≡ held d + done (take_of now number block service d).0
unfolding held
take_holds now number block service d kept =
    let reach = reach_of d.placement (length d.channels) block in
    let w : Waiting = record { number = number; service = service; reach = reach } in
    either (λ o. running_in o.1 + length o.1.waiting ≡ running_in d + length d.waiting + done o.0) (nat_lt 0 (room_of d)) _ _
    (λ t. at w (reach_within d.placement (length d.channels) block kept.some) (idle_in d.channels reach) refl) (λ t. omega arith)
  where
    start : (w : Waiting) (k : ℕ) → k < length d.channels → (channel_at d k).running ≡ false → (r : Result Channel StepFault) → ((c : Channel) → r ≡ Ok c → c.running ≡ true)
        → running_in (start_of w.number k d.waiting d r).1 + length (start_of w.number k d.waiting d r).1.waiting ≡ running_in d + length d.waiting + done (start_of w.number k d.waiting d r).0
    start w k l rests (Err e) f = omega arith
    start w k l rests (Ok c) f =
        let sum = running_set d.channels k c l in
        let now_runs = ap (λ (b : Bool). cond b 1 0 + 0) (f c refl) in
        let rested = ap (λ (b : Bool). cond b 1 0 + 0) rests in
        omega (arith, sum, now_runs, rested)

    at : (w : Waiting) → w.reach.end ≤ length d.channels → (o : Option ℕ) → idle_in d.channels w.reach ≡ o
        → running_in (take_at now w d o).1 + length (take_at now w d o).1.waiting ≡ running_in d + length d.waiting + done (take_at now w d o).0
    at w within None e = omega (arith, length-append d.waiting (w ∷ []))
    at w within (Some k) e =
        let there = found d.channels w.reach k within e in
        start w k there.0 (idle_rests (channel_at d k) there.1) (begun now w.service (channel_at d k)) (λ c is. (begun_is now w.service (channel_at d k) c is).0)

-- where a channel becomes one that doesn't run: what ran there has ended
Refills : (d : Device) (k : ℕ) (c : Channel) → Outcome → Type 0
Refills d k c (Err e, after) = running_in after + length after.waiting ≡ running_in d + length d.waiting
Refills d k c (Ok s, after) = running_in after + length after.waiting + cond (channel_at d k).running 1 0 ≡ running_in d + length d.waiting + cond c.running 1 0

refill_holds : (now k : ℕ) (c : Channel) (d : Device) → k < length d.channels → Refills d k c (refill_of now k c d)
unfolding Refills
refill_holds now k c d l = at (next_for k c d) refl
  where
    place : (i : ℕ) → next_for k c d ≡ Some i → (b : Bool) → is_idle c ≡ b → (i < length d.waiting) × (c.running ≡ false)
    place i e true t = let e' : first_for d.waiting k ≡ Some i = rw t at e in ((position-Some (λ (w : Waiting). reaches w.reach k) d.waiting i none e').0, idle_rests c t)
    place i e false t = let e' : None ≡ Some i = rw t at e in absurd cc

    start : (i number : ℕ) → i < length d.waiting → c.running ≡ false → (r : Result Channel StepFault) → ((b : Channel) → r ≡ Ok b → b.running ≡ true) → Refills d k c (start_of number k (remove d.waiting i) d r)
    start i number within rests (Err e) f = refl
    start i number within rests (Ok b) f =
        let sum = running_set d.channels k b l in
        let now_runs = ap (λ (b : Bool). cond b 1 0 + 0) (f b refl) in
        let rested = ap (λ (b : Bool). cond b 1 0 + 0) rests in
        let fewer = length-remove d.waiting i within in
        omega (arith, sum, now_runs, rested, fewer, within)

    at : (o : Option ℕ) → next_for k c d ≡ o → Refills d k c (refill_at now k c d o)
    at None e = let sum = running_set d.channels k c l in omega (arith, sum)
    at (Some i) e =
        let w = get_or d.waiting i none in
        let p = place i e (is_idle c) refl in
        start i w.number p.0 p.1 (begun now w.service c) (λ b is. (begun_is now w.service c b is).0)

-- ---- each call
from_refill : (d : Device) (k : ℕ) (o : Outcome) → (channel_at d k).running ≡ true → Refills d k (freed (channel_at d k)) o → running_in o.1 + length o.1.waiting + done o.0 ≡ running_in d + length d.waiting
unfolding Refills
from_refill d k (Err e, after) runs r = omega (arith, r)
from_refill d k (Ok s, after) runs r = let one = ap (λ (b : Bool). cond b 1 0 + 0) runs in omega (arith, r, one)

finish_holds : (now k : ℕ) (d : Device) → held (finish_of now k d).1 + done (finish_of now k d).0 ≡ held d
unfolding held
finish_holds now k d =
    let c = channel_at d k in
    either (λ o. running_in o.1 + length o.1.waiting + done o.0 ≡ running_in d + length d.waiting) (nat_lt k (length d.channels)) _ _
    (λ t. either (λ o. running_in o.1 + length o.1.waiting + done o.0 ≡ running_in d + length d.waiting) c.running _ _
    (λ r. either (λ o. running_in o.1 + length o.1.waiting + done o.0 ≡ running_in d + length d.waiting) (nat_lt now c.ends) _ _ (λ early. omega arith)
    (λ late. let l : k < length d.channels = grind (arith, nat_tests) in from_refill d k (refill_of now k (freed c) d) r (refill_holds now k (freed c) d l)))
    (λ r. omega arith)) (λ t. omega arith)

from_resume : (d : Device) (k : ℕ) (o : Outcome) → Refills d k (resumed (channel_at d k)) o → running_in o.1 + length o.1.waiting ≡ running_in d + length d.waiting
unfolding Refills
from_resume d k (Err e, after) r = r
from_resume d k (Ok s, after) r = omega (arith, r)

resume_holds : (now k : ℕ) (d : Device) → held (resume_of now k d).1 ≡ held d
unfolding held
resume_holds now k d =
    either (λ o. running_in o.1 + length o.1.waiting ≡ running_in d + length d.waiting) (nat_lt k (length d.channels)) _ _
    (λ t. let l : k < length d.channels = grind (arith, nat_tests) in from_resume d k (refill_of now k (resumed (channel_at d k)) d) (refill_holds now k (resumed (channel_at d k)) d l)) (λ t. refl)

pause_holds : (k : ℕ) (d : Device) → held (pause_of k d).1 ≡ held d
unfolding held
pause_holds k d = go (nat_lt k (length d.channels)) refl
  where
    go : (b : Bool) → nat_lt k (length d.channels) ≡ b → running_in (pause_of k d).1 + length (pause_of k d).1.waiting ≡ running_in d + length d.waiting
    go true t =
        let l : k < length d.channels = grind (arith, nat_tests) in
        let sum = running_set d.channels k (paused (channel_at d k)) l in
        rw t (omega (arith, sum))
    go false t = rw t refl

step_holds : (step : Step) (d : Device) → Kept d → held (device_behind step d) + ends step d ≡ held d + takes step d
step_holds (Take now number block service) d kept = let t = take_holds now number block service d kept in omega (arith, t)
step_holds (Finish now k) d kept = let f = finish_holds now k d in omega (arith, f)
step_holds (Pause k) d kept = let p = pause_holds k d in omega (arith, p)
step_holds (Resume now k) d kept = let r = resume_holds now k d in omega (arith, r)

-- ---- the depth stays
start_depth : (number k : ℕ) (left : List Waiting) (d : Device) (r : Result Channel StepFault) → (start_of number k left d r).1.depth ≡ d.depth
start_depth number k left d (Err e) = refl
start_depth number k left d (Ok c) = refl

take_depth : (now number block service : ℕ) (d : Device) → (take_of now number block service d).1.depth ≡ d.depth
take_depth now number block service d =
    let reach = reach_of d.placement (length d.channels) block in
    let w : Waiting = record { number = number; service = service; reach = reach } in
    either (λ o. o.1.depth ≡ d.depth) (nat_lt 0 (room_of d)) _ _ (λ t. at w (idle_in d.channels reach)) (λ t. refl)
  where
    at : (w : Waiting) (o : Option ℕ) → (take_at now w d o).1.depth ≡ d.depth
    at w None = refl
    at w (Some k) = start_depth w.number k d.waiting d (begun now w.service (channel_at d k))

refill_depth : (now k : ℕ) (c : Channel) (d : Device) → (refill_of now k c d).1.depth ≡ d.depth
refill_depth now k c d = at (next_for k c d)
  where
    at : (o : Option ℕ) → (refill_at now k c d o).1.depth ≡ d.depth
    at None = refl
    at (Some i) = let w = get_or d.waiting i none in start_depth w.number k (remove d.waiting i) d (begun now w.service c)

step_depth : (step : Step) (d : Device) → (device_behind step d).depth ≡ d.depth
step_depth (Take now number block service) d = take_depth now number block service d
step_depth (Finish now k) d =
    either (λ o. o.1.depth ≡ d.depth) (nat_lt k (length d.channels)) _ _ (λ t. either (λ o. o.1.depth ≡ d.depth) (channel_at d k).running _ _ (λ r. either (λ o. o.1.depth ≡ d.depth) (nat_lt now (channel_at d k).ends) _ _ (λ early. refl) (λ late. refill_depth now k (freed (channel_at d k)) d)) (λ r. refl)) (λ t. refl)
step_depth (Pause k) d = go (nat_lt k (length d.channels)) refl
  where
    go : (b : Bool) → nat_lt k (length d.channels) ≡ b → (pause_of k d).1.depth ≡ d.depth
    go true t = rw t refl
    go false t = rw t refl
step_depth (Resume now k) d =
    either (λ o. o.1.depth ≡ d.depth) (nat_lt k (length d.channels)) _ _ (λ t. refill_depth now k (resumed (channel_at d k)) d) (λ t. refl)

depth_after : (d : Device) (past : List Step) → (device_after d past).depth ≡ d.depth
unfolding device_after
depth_after d [] = refl
depth_after d (step ∷ past) = step_depth step (device_after d past) ∙ depth_after d past

-- ---- all calls
calls_hold : (placement : Placement) (depth count : ℕ) (past calls : List Step) → 0 < count
    → held (device_after (new_device placement depth count) (calls ++ past)) + ended_behind (new_device placement depth count) past calls
    ≡ held (device_after (new_device placement depth count) past) + taken_behind (new_device placement depth count) past calls
unfolding device_after ended_behind taken_behind
calls_hold placement depth count past [] some = omega arith
calls_hold placement depth count past (step ∷ rest) some =
    let start = new_device placement depth count in
    let ih = calls_hold placement depth count past rest some in
    let here = step_holds step (device_after start (rest ++ past)) (kept_after placement depth count some (rest ++ past)) in
    omega (arith, ih, here)

pub ends_make_room : EndsMakeRoom
unfolding held
ends_make_room placement depth count past calls some full after =
    let start = new_device placement depth count in
    let all = calls_hold placement depth count past calls some in
    let first = (steady placement depth count some past).has_depth in
    let last = (steady placement depth count some (calls ++ past)).has_depth in
    let same = depth_after start past in
    let still = depth_after start (calls ++ past) in
    omega (arith, all, first, last, same, still, full, after)
