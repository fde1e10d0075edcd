-- What each call of a device makes of the room in it.
use Rattle.std.proofs.Common.{◌≡◌, ◌∙◌, ℕ, ◌+◌, ◌<◌, ◌≤◌, ◌∷◌, ◌++◌, [], Bool, true, false, nat_lt, cond, List, length, get_or, set, Option, Some, None, Result, Ok, Err, count_by, refl, sym, ap, arith}
use Rattle.std.specs.Prelude.{remove}
use Rattle.std.proofs.lemmas.Bool.Decides.{nat_tests}
use Rattle.std.proofs.lemmas.List.{length-append}
use Rattle.std.proofs.lemmas.List.Edits.{length-remove}
use Rattle.std.proofs.lemmas.List.Quantifiers.{position-Some}
use Rattle.std.proofs.lemmas.List.Sums.{sum_by-set}
use Rattle.nvme_channels.specs.declared.channel.Channel.{Channel}
use Rattle.nvme_channels.specs.declared.channel.StepFault.{StepFault}
use Rattle.nvme_channels.specs.declared.channel.StepFault.TheVariants.{NoRoom}
use Rattle.nvme_channels.specs.declared.channels.Start.{Start}
use Rattle.nvme_channels.specs.declared.channels.Waiting.{Waiting}
use Rattle.nvme_channels.specs.declared.placement.Placement.{Placement}
use Rattle.nvme_channels.specs.Channel.{begun, freed, is_idle, resumed}
use Rattle.nvme_channels.specs.Devices.{Device, channel_at, first_for, idle, idle_in, new_device, room_of, running_in}
use Rattle.nvme_channels.specs.Reaches.{reach_of, reaches}
use Rattle.nvme_channels.specs.Runs.{Step, device_after, device_behind}
use Rattle.nvme_channels.specs.Steps.{Outcome, finish_of, next_for, none, refill_at, refill_of, resume_of, start_of, take_at, take_of}
use Rattle.nvme_channels.proofs.Begun.{begun_is, either}
use Rattle.nvme_channels.proofs.Idle.{found, idle_rests}
use Rattle.nvme_channels.proofs.Steady.{reach_within}
use Rattle.nvme_simulation.specs.Devices.{IsBehind, IsDevice}

-- a device after one call
pub behind_one : (d e : Device) (step : Step) → e ≡ device_behind step d → IsBehind d e
unfolding device_after
behind_one d e step is = record { calls = step ∷ []; is = is }

pub behind_none : (d : Device) → IsBehind d d
unfolding device_after
behind_none d = record { calls = []; is = refl }

after_both : (d : Device) (xs ys : List Step) → device_after d (xs ++ ys) ≡ device_after (device_after d ys) xs
unfolding device_after
after_both d [] ys = refl
after_both d (x ∷ xs) ys = ap (device_behind x) (after_both d xs ys)

pub behind_then : (a b c : Device) → IsBehind a b → IsBehind b c → IsBehind a c
behind_then a b c first second = record {
  calls = second.calls ++ first.calls;
  is = second.is ∙ ap (λ (d : Device). device_after d second.calls) first.is ∙ sym (after_both a second.calls first.calls);
}

pub new_is : (placement : Placement) (depth channels : ℕ) (d : Device) → 0 < channels → d ≡ new_device placement depth channels → IsDevice d
unfolding device_after
new_is placement depth channels d some is = record { placement = placement; depth = depth; channels = channels; some = some; calls = []; is = is }

pub device_then : (a b : Device) → IsDevice a → IsBehind a b → IsDevice b
device_then a b is behind = record {
  placement = is.placement;
  depth = is.depth;
  channels = is.channels;
  some = is.some;
  calls = behind.calls ++ is.calls;
  is = behind.is ∙ ap (λ (d : Device). device_after d behind.calls) is.is ∙ sym (after_both (new_device is.placement is.depth is.channels) behind.calls is.calls);
}

running_set : (channels : List Channel) (k : ℕ) (c : Channel) → k < length channels
    → count_by (λ c. c.running) (set channels k c) + cond (get_or channels k idle).running 1 0 ≡ count_by (λ c. c.running) channels + cond c.running 1 0
running_set channels k c l = sum_by-set (λ (c : Channel). cond c.running 1 0) channels k c idle l

-- a command that is taken takes a place
pub take_room : (now number block service : ℕ) (d : Device) → 0 < length d.channels → (o : Option Start) → (take_of now number block service d).0 ≡ Ok o
    → room_of (take_of now number block service d).1 + 1 ≡ room_of d
take_room now number block service d some o =
    let reach = reach_of d.placement (length d.channels) block in
    let within : reach.end ≤ length d.channels = reach_within d.placement (length d.channels) block some in
    by (nat_lt 0 (room_of d)) refl within
  where
    w : Waiting
    w = record { number = number; service = service; reach = reach_of d.placement (length d.channels) block }

    starts : (k : ℕ) → k < length d.channels → is_idle (channel_at d k) ≡ true → 0 < room_of d → (r : Result Channel StepFault)
        → begun now service (channel_at d k) ≡ r → (start_of number k d.waiting d r).0 ≡ Ok o → room_of (start_of number k d.waiting d r).1 + 1 ≡ room_of d
    starts k there rests room (Err e) is ok = absurd (cc ok)
    starts k there rests room (Ok c) is ok =
        let runs : c.running ≡ true = (begun_is now service (channel_at d k) c is).0 in
        let was : (channel_at d k).running ≡ false = idle_rests (channel_at d k) rests in
        let counts : count_by (λ c. c.running) (set d.channels k c) + 0 ≡ running_in d + 1 =
        ap (λ (b : Bool). count_by (λ c. c.running) (set d.channels k c) + cond b 1 0) (sym was) ∙ running_set d.channels k c there ∙ ap (λ (b : Bool). running_in d + cond b 1 0) runs in
        omega (arith, counts, room)

    at : (reach_of d.placement (length d.channels) block).end ≤ length d.channels → 0 < room_of d → (p : Option ℕ) → idle_in d.channels w.reach ≡ p
        → (take_at now w d p).0 ≡ Ok o → room_of (take_at now w d p).1 + 1 ≡ room_of d
    at within room None e ok = omega (arith, room, length-append d.waiting (w ∷ []))
    at within room (Some k) e ok =
        let there = found d.channels w.reach k within e in
        starts k there.0 there.1 room (begun now service (channel_at d k)) refl ok

    by : (b : Bool) → nat_lt 0 (room_of d) ≡ b → (reach_of d.placement (length d.channels) block).end ≤ length d.channels
        → (cond b (take_at now w d (idle_in d.channels w.reach)) (Err NoRoom, d)).0 ≡ Ok o
        → room_of (cond b (take_at now w d (idle_in d.channels w.reach)) (Err NoRoom, d)).1 + 1 ≡ room_of d
    by true t within ok = at within (grind (arith, nat_tests)) (idle_in d.channels w.reach) refl ok
    by false t within ok = absurd (cc ok)

-- a channel becomes one that runs nothing that it didn't, and the next command may start there
refill_room : (now k : ℕ) (c : Channel) (d : Device) → k < length d.channels → cond c.running 1 0 ≤ cond (channel_at d k).running 1 0
    → room_of (refill_of now k c d).1 + cond c.running 1 0 ≤ room_of d + cond (channel_at d k).running 1 0
refill_room now k c d l more = at (next_for k c d) refl
  where
    place : (i : ℕ) → next_for k c d ≡ Some i → (b : Bool) → is_idle c ≡ b → i < length d.waiting
    place i e true t = let e' : first_for d.waiting k ≡ Some i = rw t at e in (position-Some (λ (w : Waiting). reaches w.reach k) d.waiting i none e').0
    place i e false t = let e' : None ≡ Some i = rw t at e in absurd cc

    rests : (i : ℕ) → next_for k c d ≡ Some i → (b : Bool) → is_idle c ≡ b → is_idle c ≡ true
    rests i e true t = t
    rests i e false t = let e' : None ≡ Some i = rw t at e in absurd cc

    starts : (i number : ℕ) → i < length d.waiting → is_idle c ≡ true → (service : ℕ) (r : Result Channel StepFault) → begun now service c ≡ r
        → room_of (start_of number k (remove d.waiting i) d r).1 + cond c.running 1 0 ≤ room_of d + cond (channel_at d k).running 1 0
    starts i number within free service (Err e) is = omega (arith, more)
    starts i number within free service (Ok b) is =
        let runs : b.running ≡ true = (begun_is now service c b is).0 in
        let was : c.running ≡ false = idle_rests c free in
        let counts : count_by (λ c. c.running) (set d.channels k b) + cond (channel_at d k).running 1 0 ≡ running_in d + 1 =
        running_set d.channels k b l ∙ ap (λ (x : Bool). running_in d + cond x 1 0) runs in
        let none_runs : ◌≡◌ {A = ℕ} (cond c.running 1 0) 0 = ap (λ (x : Bool). cond x 1 0) was in
        omega (arith, counts, none_runs, length-remove d.waiting i within, within)

    at : (o : Option ℕ) → next_for k c d ≡ o → room_of (refill_at now k c d o).1 + cond c.running 1 0 ≤ room_of d + cond (channel_at d k).running 1 0
    at None e = let counts = running_set d.channels k c l in omega (arith, counts, more)
    at (Some i) e =
        let within : i < length d.waiting = place i e (is_idle c) refl in
        let w = get_or d.waiting i none in
        starts i w.number within (rests i e (is_idle c) refl) w.service (begun now w.service c) refl

pub finish_room : (now k : ℕ) (d : Device) → room_of (finish_of now k d).1 ≤ room_of d + 1
finish_room now k d =
    let c = channel_at d k in
    either (λ (o : Outcome). room_of o.1 ≤ room_of d + 1) (nat_lt k (length d.channels)) _ _ (λ t. either (λ (o : Outcome). room_of o.1 ≤ room_of d + 1) c.running _ _ (λ r. either (λ (o : Outcome). room_of o.1 ≤ room_of d + 1) (nat_lt now c.ends) _ _ (λ early. omega arith) (λ late.
    let l : k < length d.channels = grind (arith, nat_tests) in
    let runs : ◌≡◌ {A = ℕ} (cond (channel_at d k).running 1 0) 1 = ap (λ (x : Bool). cond x 1 0) r in
    omega (arith, refill_room now k (freed c) d l (omega arith), runs))) (λ r. omega arith)) (λ t. omega arith)

pub resume_room : (now k : ℕ) (d : Device) → room_of (resume_of now k d).1 ≤ room_of d
resume_room now k d =
    either (λ (o : Outcome). room_of o.1 ≤ room_of d) (nat_lt k (length d.channels)) _ _ (λ t.
    let l : k < length d.channels = grind (arith, nat_tests) in
    omega (arith, refill_room now k (resumed (channel_at d k)) d l (omega arith))) (λ t. omega arith)
