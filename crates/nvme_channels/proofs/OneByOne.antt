-- Each call adds to a channel's times what its answer starts there.
use Rattle.std.proofs.Common.{◌≡◌, ◌∙◌, ℕ, zero, suc, ◌+◌, ◌<◌, ◌≤◌, ◌==◌, [], ◌∷◌, Bool, true, false, nat_lt, List, length, get_or, set, Option, Some, None, Result, Ok, Err, replicate, inl, inr, ap, refl, arith}
use Rattle.std.specs.Prelude.{remove}
use Rattle.std.proofs.lemmas.Bool.{cases_eq}
use Rattle.std.proofs.lemmas.Bool.Decides.{nat_tests}
use Rattle.std.proofs.lemmas.List.{get_or-set_other, get_or-set_same}
use Rattle.nvme_channels.specs.declared.channel.Channel.{Channel}
use Rattle.nvme_channels.specs.declared.channel.StepFault.{StepFault}
use Rattle.nvme_channels.specs.declared.channels.Start.{Start}
use Rattle.nvme_channels.specs.declared.channels.Waiting.{Waiting}
use Rattle.nvme_channels.specs.declared.placement.Placement.{Placement}
use Rattle.nvme_channels.specs.Channel.{begun, freed, paused, resumed}
use Rattle.nvme_channels.specs.Devices.{Device, channel_at, idle, idle_in, new_device, room_of}
use Rattle.nvme_channels.specs.Laws.{RunsOneByOne}
use Rattle.nvme_channels.specs.Reaches.{reach_of}
use Rattle.nvme_channels.specs.Runs.{Step, Take, Finish, Pause, Resume, answer_of, device_after, device_behind, end_in, last_end, now_of, run_in, runs_on}
use Rattle.nvme_channels.specs.Steps.{Outcome, finish_of, next_for, none, pause_of, refill_at, refill_of, resume_of, start_of, take_at, take_of, with_content}
use Rattle.nvme_channels.proofs.Begun.{begun_is, either}
use Rattle.nvme_channels.proofs.Idle.{found}
use Rattle.nvme_channels.proofs.Steady.{Kept, kept_after, reach_within}

-- a channel behind a call, by the one before it and the answer
record Adds (k now : ℕ) (old new : Channel) (answer : Result (Option Start) StepFault) : Type 0 where
  busy : new.busy ≡ old.busy + run_in k now answer
  ends : new.ends ≡ end_in k old.ends answer
  within : old.busy ≤ old.ends → new.busy ≤ new.ends
  next : (s : Start) → answer ≡ Ok (Some s) → s.channel ≡ k → old.ends ≤ now

abbrev Ran : ℕ → ℕ → Device → Outcome → Type 0
Ran k now d o = Adds k now (channel_at d k) (channel_at o.1 k) o.0

refused : (k now : ℕ) (d : Device) (e : StepFault) → Ran k now d (Err e, d)
refused k now d e = record { busy = omega arith; ends = refl; within = λ h. h; next = λ s is at. cc }

-- a channel becomes one with the same times
rested : (k now j : ℕ) (d : Device) (c : Channel) (left : List Waiting) → j < length d.channels → c.busy ≡ (channel_at d j).busy → c.ends ≡ (channel_at d j).ends
    → Ran k now d (Ok None, with_content d (set d.channels j c) left)
rested k now j d c left l same_busy same_ends = elim (cases_eq k j) [
  | inl e ↦ rw (e, get_or-set_same d.channels j c idle l) (record { busy = omega (arith, same_busy); ends = same_ends; within = λ h. omega (arith, h, same_busy, same_ends); next = λ s is at. cc })
  | inr ne ↦ rw (get_or-set_other d.channels j k c idle ne) (record { busy = omega arith; ends = refl; within = λ h. h; next = λ s is at. cc })
]

-- a command starts on a channel with the same times
started : (k now service number j : ℕ) (d : Device) (c : Channel) (left : List Waiting) → j < length d.channels → c.busy ≡ (channel_at d j).busy
    → c.ends ≡ (channel_at d j).ends → Ran k now d (start_of number j left d (begun now service c))
started k now service number j d c left l same_busy same_ends = go (begun now service c) refl
  where
    go : (r : Result Channel StepFault) → begun now service c ≡ r → Ran k now d (start_of number j left d r)
    go (Err e) is = refused k now d e
    go (Ok b) is =
        let says = begun_is now service c b is in
        elim (cases_eq k j) [
          | inl e ↦
              let test : (j == j) ≡ true = grind (arith, nat_tests) in
              rw (e, get_or-set_same d.channels j b idle l) (record {
                busy = rw test (omega (arith, says.2, says.3, same_busy));
                ends = rw test refl;
                within = λ h. omega (arith, h, says.1, says.2, says.3, same_busy, same_ends);
                next = λ s is at. omega (arith, says.1, same_ends);
              })
          | inr ne ↦
              let test : (j == k) ≡ false = grind (arith, nat_tests) in
              rw (get_or-set_other d.channels j k b idle ne) (record {
                busy = rw test (omega arith);
                ends = rw test refl;
                within = λ h. h;
                next = λ s is at. let there : j ≡ s.channel = cc in absurd (omega (arith, ne, there, at));
              })
        ]

take_ran : (k now number block service : ℕ) (d : Device) → Kept d → Ran k now d (take_of now number block service d)
take_ran k now number block service d kept =
    let reach = reach_of d.placement (length d.channels) block in
    either (Ran k now d) (nat_lt 0 (room_of d)) _ _
    (λ t. at (record { number = number; service = service; reach = reach }) (reach_within d.placement (length d.channels) block kept.some) (idle_in d.channels reach) refl)
    (λ t. refused k now d _)
  where
    at : (w : Waiting) → w.reach.end ≤ length d.channels → (o : Option ℕ) → idle_in d.channels w.reach ≡ o → Ran k now d (take_at now w d o)
    at w within None e = record { busy = omega arith; ends = refl; within = λ h. h; next = λ s is at. cc }
    at w within (Some j) e =
        started k now w.service w.number j d (channel_at d j) d.waiting (found d.channels w.reach j within e).0 refl refl

refill_ran : (k now j : ℕ) (c : Channel) (d : Device) → j < length d.channels → c.busy ≡ (channel_at d j).busy → c.ends ≡ (channel_at d j).ends
    → Ran k now d (refill_of now j c d)
refill_ran k now j c d l same_busy same_ends = at (next_for j c d)
  where
    at : (o : Option ℕ) → Ran k now d (refill_at now j c d o)
    at None = rested k now j d c d.waiting l same_busy same_ends
    at (Some i) =
        let w = get_or d.waiting i none in started k now w.service w.number j d c (remove d.waiting i) l same_busy same_ends

within : (j n : ℕ) → nat_lt j n ≡ true → j < n
within j n t = grind (arith, nat_tests)

finish_ran : (k now j : ℕ) (d : Device) → Ran k now d (finish_of now j d)
finish_ran k now j d =
    let c = channel_at d j in
    either (Ran k now d) (nat_lt j (length d.channels)) _ _
    (λ t. either (Ran k now d) c.running _ _
    (λ r. either (Ran k now d) (nat_lt now c.ends) _ _ (λ early. refused k now d _)
    (λ late. refill_ran k now j (freed c) d (within j (length d.channels) t) refl refl))
    (λ r. refused k now d _))
    (λ t. refused k now d _)

resume_ran : (k now j : ℕ) (d : Device) → Ran k now d (resume_of now j d)
resume_ran k now j d =
    either (Ran k now d) (nat_lt j (length d.channels)) _ _
    (λ t. refill_ran k now j (resumed (channel_at d j)) d (within j (length d.channels) t) refl refl) (λ t. refused k now d _)

pause_ran : (k j : ℕ) (d : Device) → Ran k 0 d (Ok None, (pause_of j d).1)
pause_ran k j d = go (nat_lt j (length d.channels)) refl
  where
    go : (b : Bool) → nat_lt j (length d.channels) ≡ b → Ran k 0 d (Ok None, (pause_of j d).1)
    go true t = rw t (rested k 0 j d (paused (channel_at d j)) d.waiting (within j (length d.channels) t) refl refl)
    go false t = rw t (record { busy = omega arith; ends = refl; within = λ h. h; next = λ s is at. cc })

step_ran : (k : ℕ) (step : Step) (d : Device) → Kept d
    → Adds k (now_of step) (channel_at d k) (channel_at (device_behind step d) k) (answer_of step d)
step_ran k (Take now number block service) d kept = take_ran k now number block service d kept
step_ran k (Finish now j) d kept = finish_ran k now j d
step_ran k (Pause j) d kept = pause_ran k j d
step_ran k (Resume now j) d kept = resume_ran k now j d

-- a channel of a new device, or one that it doesn't have
first : (count k : ℕ) → get_or (replicate count idle) k idle ≡ idle
first zero k = refl
first (suc count) zero = refl
first (suc count) (suc k) = first count k

times : (placement : Placement) (depth count : ℕ) → 0 < count → (k : ℕ) (past : List Step)
    → let d = device_after (new_device placement depth count) past in
    ((channel_at d k).busy ≡ runs_on k (new_device placement depth count) past) × ((channel_at d k).ends ≡ last_end k (new_device placement depth count) past)
    × ((channel_at d k).busy ≤ (channel_at d k).ends)
unfolding device_after runs_on last_end
times placement depth count some k [] = rw (first count k) (refl, refl, omega arith)
times placement depth count some k (step ∷ past) =
    let start = new_device placement depth count in
    let so_far = times placement depth count some k past in
    let d = device_after start past in
    let more = step_ran k step d (kept_after placement depth count some past) in (
      more.busy ∙ ap (λ (b : ℕ). b + run_in k (now_of step) (answer_of step d)) so_far.0,
      more.ends ∙ ap (λ (e : ℕ). end_in k e (answer_of step d)) so_far.1,
      more.within so_far.2,
    )

pub one_by_one : (placement : Placement) (depth count : ℕ) → 0 < count → (past : List Step) (k : ℕ) → RunsOneByOne (new_device placement depth count) past k
one_by_one placement depth count some past k =
    let start = new_device placement depth count in
    let d = device_after start past in
    let so_far = times placement depth count some k past in
    record {
      busy = so_far.0;
      ends = so_far.1;
      within = rw (← so_far.1) so_far.2;
      next = λ step s is at. let e = (step_ran k step d (kept_after placement depth count some past)).next s is at in rw (← so_far.1) e;
    }
