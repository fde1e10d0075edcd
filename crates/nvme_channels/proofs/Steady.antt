-- Each call keeps a device steady.
use Rattle.std.proofs.Common.{◌≡◌, ℕ, ◌+◌, ◌/◌, ◌%◌, ◌<◌, ◌≤◌, ◌||◌, ◌∷◌, [], Bool, true, false, not, nat_lt, cond, List, length, get_or, set, Option, Some, None, Result, Ok, Err, count_by, All, replicate, refl, arith}
use Rattle.std.specs.Prelude.{remove}
use Rattle.std.proofs.lemmas.Bool.Decides.{nat_tests}
use Rattle.std.proofs.lemmas.List.{length-append, length-replicate, length-set}
use Rattle.std.proofs.lemmas.List.Edits.{length-remove}
use Rattle.std.proofs.lemmas.List.Elements.{All-nil, All-push, All-weaker}
use Rattle.std.proofs.lemmas.List.Folds.{sum_by-replicate}
use Rattle.std.proofs.lemmas.List.Quantifiers.{position-Some}
use Rattle.std.proofs.lemmas.List.Sums.{sum_by-set}
use Rattle.std.proofs.lemmas.Nat.{mod_below}
use Rattle.nvme_channels.specs.declared.channel.Channel.{Channel}
use Rattle.nvme_channels.specs.declared.channel.StepFault.{StepFault}
use Rattle.nvme_channels.specs.declared.channels.Waiting.{Waiting}
use Rattle.nvme_channels.specs.declared.placement.Placement.{Placement}
use Rattle.nvme_channels.specs.declared.placement.Placement.TheVariants.{Pool, Striped}
use Rattle.nvme_channels.specs.Channel.{begun, freed, is_idle, paused, resumed}
use Rattle.nvme_channels.specs.Devices.{Device, channel_at, first_for, idle, idle_in, new_device, room_of, running_in}
use Rattle.nvme_channels.specs.Laws.{NoneIdle, StaysSteady}
use Rattle.nvme_channels.specs.Reaches.{reach_of, reaches}
use Rattle.nvme_channels.specs.Runs.{Step, Take, Finish, Pause, Resume, device_after, device_behind}
use Rattle.nvme_channels.specs.Steps.{finish_of, next_for, none, pause_of, refill_at, refill_of, resume_of, start_of, take_at, take_of, with_content}
use Rattle.nvme_channels.proofs.Begun.{begun_is, either}
use Rattle.nvme_channels.proofs.Idle.{apart_set, busy_set, found, idle_rests, none_found, none_passes, others}

-- a steady device with a channel or more
pub record Kept (d : Device) : Type 0 where
  pub some : 0 < length d.channels
  pub conserves : All (λ w. NoneIdle d.channels w.reach) d.waiting
  pub within : running_in d + length d.waiting ≤ d.depth

pub reach_within : (p : Placement) (n block : ℕ) → 0 < n → (reach_of p n block).end ≤ n
reach_within Pool n block some = omega arith
reach_within (Striped stripe) n block some =
    let below : block / stripe.blocks % n < n = mod_below (block / stripe.blocks) n some in omega (arith, below)

running_set : (channels : List Channel) (k : ℕ) (c : Channel) → k < length channels
    → count_by (λ c. c.running) (set channels k c) + cond (get_or channels k idle).running 1 0 ≡ count_by (λ c. c.running) channels + cond c.running 1 0
running_set channels k c l = sum_by-set (λ (c : Channel). cond c.running 1 0) channels k c idle l

-- a channel becomes another, and these are left to wait
changed : (d : Device) (k : ℕ) (c : Channel) (left : List Waiting) → Kept d → k < length d.channels → All (λ w. NoneIdle (set d.channels k c) w.reach) left
    → running_in d + cond c.running 1 0 + length left ≤ d.depth + cond (channel_at d k).running 1 0 → Kept (with_content d (set d.channels k c) left)
changed d k c left kept l all few = record {
  some = omega (arith, kept.some, length-set d.channels k c);
  conserves = all;
  within = let sum = running_set d.channels k c l in omega (arith, sum, few);
}

start_kept : (number k : ℕ) (left : List Waiting) (d : Device) (r : Result Channel StepFault) → Kept d
    → ((c : Channel) → r ≡ Ok c → Kept (with_content d (set d.channels k c) left)) → Kept (start_of number k left d r).1
start_kept number k left d (Err e) kept f = kept
start_kept number k left d (Ok c) kept f = f c refl

runs_busy : (c : Channel) → c.running ≡ true → is_idle c ≡ false
runs_busy c e = rw e refl

paused_busy : (c : Channel) → is_idle (paused c) ≡ false
paused_busy c = elim c.running as (λ b. not (b || true) ≡ false) [ true ↦ refl | false ↦ refl ]

take_kept : (now number block service : ℕ) (d : Device) → Kept d → Kept (take_of now number block service d).1
take_kept now number block service d kept =
    let reach = reach_of d.placement (length d.channels) block in
    let w : Waiting = record { number = number; service = service; reach = reach } in
    let within : reach.end ≤ length d.channels = reach_within d.placement (length d.channels) block kept.some in
    either (λ o. Kept o.1) (nat_lt 0 (room_of d)) _ _ (λ t.
    let room : running_in d + length d.waiting < d.depth = grind (arith, nat_tests) in
    at w within room (idle_in d.channels reach) refl) (λ t. kept)
  where
    at : (w : Waiting) → w.reach.end ≤ length d.channels → running_in d + length d.waiting < d.depth → (o : Option ℕ) → idle_in d.channels w.reach ≡ o
        → Kept (take_at now w d o).1
    at w within room None e = record {
      some = kept.some;
      conserves = All-push (λ (w : Waiting). NoneIdle d.channels w.reach) d.waiting w kept.conserves (none_found d.channels w.reach within e);
      within = omega (arith, room, length-append d.waiting (w ∷ []));
    }
    at w within room (Some k) e =
        let there = found d.channels w.reach k within e in
        let rests : (channel_at d k).running ≡ false = idle_rests (channel_at d k) there.1 in
        start_kept w.number k d.waiting d (begun now w.service (channel_at d k)) kept (λ c is.
        let runs : c.running ≡ true = (begun_is now w.service (channel_at d k) c is).0 in
        changed d k c d.waiting kept there.0
        (All-weaker (λ (v : Waiting). NoneIdle d.channels v.reach) (λ (v : Waiting). NoneIdle (set d.channels k c) v.reach)
        (λ v. busy_set d.channels k c v.reach (runs_busy c runs)) d.waiting kept.conserves)
        (rw (runs, rests) (omega (arith, room))))

-- a channel becomes one that runs nothing that it didn't
refill_kept : (now k : ℕ) (c : Channel) (d : Device) → Kept d → k < length d.channels → cond c.running 1 0 ≤ cond (channel_at d k).running 1 0
    → Kept (refill_of now k c d).1
refill_kept now k c d kept l more = at (next_for k c d) refl
  where
    apart : next_for k c d ≡ None → is_idle c ≡ true → (i : ℕ) (w : Waiting) → i < length d.waiting → reaches (get_or d.waiting i w).reach k ≡ false
    apart e t i w l = let e' : first_for d.waiting k ≡ None = rw t at e in none_passes (λ (w : Waiting). reaches w.reach k) d.waiting i w e' l

    left : next_for k c d ≡ None → (b : Bool) → is_idle c ≡ b → All (λ w. NoneIdle (set d.channels k c) w.reach) d.waiting
    left e true t i w l = apart_set d.channels k c (get_or d.waiting i w).reach (apart e t i w l) (kept.conserves i w l)
    left e false t i w l = busy_set d.channels k c (get_or d.waiting i w).reach t (kept.conserves i w l)

    place : (i : ℕ) → next_for k c d ≡ Some i → (b : Bool) → is_idle c ≡ b → i < length d.waiting
    place i e true t = let e' : first_for d.waiting k ≡ Some i = rw t at e in (position-Some (λ (w : Waiting). reaches w.reach k) d.waiting i none e').0
    place i e false t = let e' : None ≡ Some i = rw t at e in absurd cc

    at : (o : Option ℕ) → next_for k c d ≡ o → Kept (refill_at now k c d o).1
    at None e = changed d k c d.waiting kept l (left e (is_idle c) refl) (omega (arith, more, kept.within))
    at (Some i) e =
        let within : i < length d.waiting = place i e (is_idle c) refl in
        let w = get_or d.waiting i none in
        start_kept w.number k (remove d.waiting i) d (begun now w.service c) kept (λ b is.
        let runs : b.running ≡ true = (begun_is now w.service c b is).0 in
        changed d k b (remove d.waiting i) kept l
        (others (λ (v : Waiting). NoneIdle (set d.channels k b) v.reach) d.waiting i
        (All-weaker (λ (v : Waiting). NoneIdle d.channels v.reach) (λ (v : Waiting). NoneIdle (set d.channels k b) v.reach)
        (λ v. busy_set d.channels k b v.reach (runs_busy b runs)) d.waiting kept.conserves))
        (rw runs (omega (arith, kept.within, length-remove d.waiting i within))))

finish_kept : (now k : ℕ) (d : Device) → Kept d → Kept (finish_of now k d).1
finish_kept now k d kept =
    let c = channel_at d k in
    either (λ o. Kept o.1) (nat_lt k (length d.channels)) _ _ (λ t. either (λ o. Kept o.1) c.running _ _ (λ r. either (λ o. Kept o.1) (nat_lt now c.ends) _ _ (λ early. kept) (λ late.
    let l : k < length d.channels = grind (arith, nat_tests) in refill_kept now k (freed c) d kept l (omega arith))) (λ r. kept)) (λ t. kept)

resume_kept : (now k : ℕ) (d : Device) → Kept d → Kept (resume_of now k d).1
resume_kept now k d kept =
    either (λ o. Kept o.1) (nat_lt k (length d.channels)) _ _ (λ t.
    let l : k < length d.channels = grind (arith, nat_tests) in refill_kept now k (resumed (channel_at d k)) d kept l (omega arith)) (λ t. kept)

pause_kept : (k : ℕ) (d : Device) → Kept d → Kept (pause_of k d).1
pause_kept k d kept = go (nat_lt k (length d.channels)) refl
  where
    go : (b : Bool) → nat_lt k (length d.channels) ≡ b → Kept (pause_of k d).1
    go true t =
        let l : k < length d.channels = grind (arith, nat_tests) in
        let c = paused (channel_at d k) in
        rw t (changed d k c d.waiting kept l
        (All-weaker (λ (v : Waiting). NoneIdle d.channels v.reach) (λ (v : Waiting). NoneIdle (set d.channels k c) v.reach)
        (λ v. busy_set d.channels k c v.reach (paused_busy (channel_at d k))) d.waiting kept.conserves)
        (omega (arith, kept.within)))
    go false t = rw t kept

step_kept : (step : Step) (d : Device) → Kept d → Kept (device_behind step d)
step_kept (Take now number block service) d kept = take_kept now number block service d kept
step_kept (Finish now k) d kept = finish_kept now k d kept
step_kept (Pause k) d kept = pause_kept k d kept
step_kept (Resume now k) d kept = resume_kept now k d kept

pub kept_after : (placement : Placement) (depth count : ℕ) → 0 < count → (past : List Step) → Kept (device_after (new_device placement depth count) past)
unfolding device_after
kept_after placement depth count some [] = record {
  some = omega (arith, some, length-replicate count idle);
  conserves = All-nil (λ (w : Waiting). NoneIdle (replicate count idle) w.reach);
  within = omega (arith, sum_by-replicate (λ (c : Channel). cond c.running 1 0) count idle);
}
kept_after placement depth count some (step ∷ past) =
    step_kept step (device_after (new_device placement depth count) past) (kept_after placement depth count some past)

pub steady : (placement : Placement) (depth count : ℕ) → 0 < count → (past : List Step) → StaysSteady placement depth count past
steady placement depth count some past =
    let kept = kept_after placement depth count some past in
    record { conserves_work = kept.conserves; has_depth = omega (arith, kept.within) }
