-- What a call of a device leaves running, and that the ends of what runs are planned.
use Rattle.std.proofs.Common.{◌≡◌, ◌≢◌, ◌∙◌, ◌≤◌, ◌<◌, ◌⊎◌, ℕ, true, nat_lt, List, length, get_or, set, Option, Some, None, Result, Ok, Err, inl, inr, refl, sym, ap, subst, arith}
use Rattle.std.specs.Prelude.{remove}
use Rattle.std.proofs.lemmas.Bool.{cases_eq, true≢false}
use Rattle.std.proofs.lemmas.Bool.Decides.{nat_tests}
use Rattle.std.proofs.lemmas.List.{get_or-set_other, get_or-set_same}
use Rattle.nvme_channels.specs.declared.channel.Channel.{Channel}
use Rattle.nvme_channels.specs.declared.channel.StepFault.{StepFault}
use Rattle.nvme_channels.specs.declared.channels.Start.{Start}
use Rattle.nvme_channels.specs.declared.channels.Waiting.{Waiting}
use Rattle.nvme_channels.specs.Channel.{begun, freed, resumed}
use Rattle.nvme_channels.specs.Devices.{Device, channel_at, idle, idle_in, room_of}
use Rattle.nvme_channels.specs.Reaches.{reach_of}
use Rattle.nvme_channels.specs.Steps.{Outcome, finish_of, next_for, none, refill_at, refill_of, resume_of, start_of, take_at, take_of}
use Rattle.nvme_channels.proofs.Begun.{either}
use Rattle.nvme_channels.proofs.Idle.{found}
use Rattle.nvme_channels.proofs.Steady.{Kept, reach_within}
use Rattle.nvme_clock.specs.Held.{Held}
use Rattle.nvme_simulation.specs.Starts.{AnswersAs, PlansEnd, StartsAs}
use Rattle.nvme_simulation.specs.declared.agenda.Event.{Event}
use Rattle.nvme_simulation.specs.declared.agenda.Event.TheVariants.{End}
use Rattle.nvme_waits_of_runs.proofs.Ends.{EndIn, end_here, end_pushed}

-- a command ran before a call, and is to end when it was
pub record Ran (before after : Channel) : Type 0 where
  pub runs : before.running ≡ true
  pub same : after.ends ≡ before.ends

-- or the call starts it
pub record Begins (k : ℕ) (c : Channel) (answer : Result (Option Start) StepFault) : Type 0 where
  pub start : Start
  pub is : answer ≡ Ok (Some start)
  pub channel : start.channel ≡ k
  pub ends : start.ends ≡ c.ends

-- so what runs behind a call, whose commands stay on some channels
pub Runs : (stays : ℕ → Type 0) (d : Device) → Outcome → Type 0
Runs stays d o = (k : ℕ) → (channel_at o.1 k).running ≡ true → (stays k × Ran (channel_at d k) (channel_at o.1 k)) ⊎ Begins k (channel_at o.1 k) o.0

-- where the call isn't refused
abbrev pub RunsIf : (stays : ℕ → Type 0) (d : Device) → Outcome → Type 0
RunsIf stays d o = (x : Option Start) → o.0 ≡ Ok x → Runs stays d o

refused : (stays : ℕ → Type 0) (d : Device) (e : StepFault) → RunsIf stays d (Err e, d)
refused stays d e x ok = absurd (cc ok)

started : (stays : ℕ → Type 0) (number j : ℕ) (left : List Waiting) (d : Device) → j < length d.channels → ((k : ℕ) → k ≢ j → stays k) → (r : Result Channel StepFault)
    → RunsIf stays d (start_of number j left d r)
unfolding Runs
started stays number j left d l others (Err e) = λ x ok. absurd (cc ok)
started stays number j left d l others (Ok b) = λ x ok k runs. elim (cases_eq k j) [
  | inl e ↦ inr (record {
    start = record { number = number; channel = j; ends = b.ends };
    is = refl;
    channel = sym e;
    ends = ap (λ (c : Channel). c.ends) (sym (ap (λ (i : ℕ). get_or (set d.channels j b) i idle) e ∙ get_or-set_same d.channels j b idle l));
  })
  | inr ne ↦
      let same : get_or (set d.channels j b) k idle ≡ get_or d.channels k idle = get_or-set_other d.channels j k b idle ne in
      inl (others k ne, record { runs = ap (λ (c : Channel). c.running) (sym same) ∙ runs; same = ap (λ (c : Channel). c.ends) same })
]

refilled : (stays : ℕ → Type 0) (now j : ℕ) (c : Channel) (d : Device) → j < length d.channels → ((k : ℕ) → k ≢ j → stays k)
    → (c.running ≡ true → stays j × Ran (channel_at d j) c) → RunsIf stays d (refill_of now j c d)
unfolding Runs
refilled stays now j c d l others own = at (next_for j c d)
  where
    at : (o : Option ℕ) → RunsIf stays d (refill_at now j c d o)
    at None = λ x ok k runs. elim (cases_eq k j) [
      | inl e ↦
          let here : get_or (set d.channels j c) k idle ≡ c = ap (λ (i : ℕ). get_or (set d.channels j c) i idle) e ∙ get_or-set_same d.channels j c idle l in
          let it = own (ap (λ (c : Channel). c.running) (sym here) ∙ runs) in
          inl (
            subst stays (sym e) it.0,
            record {
              runs = ap (λ (i : ℕ). (channel_at d i).running) e ∙ it.1.runs;
              same = ap (λ (c : Channel). c.ends) here ∙ it.1.same ∙ ap (λ (i : ℕ). (channel_at d i).ends) (sym e);
            },
          )
      | inr ne ↦
          let same : get_or (set d.channels j c) k idle ≡ get_or d.channels k idle = get_or-set_other d.channels j k c idle ne in
          inl (others k ne, record { runs = ap (λ (c : Channel). c.running) (sym same) ∙ runs; same = ap (λ (c : Channel). c.ends) same })
    ]
    at (Some i) = let w = get_or d.waiting i none in started stays w.number j (remove d.waiting i) d l others (begun now w.service c)

abbrev pub Any : ℕ → Type 0
Any k = Unit {0}

pub take_runs : (now number block service : ℕ) (d : Device) → Kept d → RunsIf Any d (take_of now number block service d)
unfolding Runs
take_runs now number block service d kept =
    let reach = reach_of d.placement (length d.channels) block in
    let w : Waiting = record { number = number; service = service; reach = reach } in
    either (RunsIf Any d) (nat_lt 0 (room_of d)) _ _ (λ t. at w (reach_within d.placement (length d.channels) block kept.some) (idle_in d.channels reach) refl) (λ t x ok. absurd (cc ok))
  where
    at : (w : Waiting) → w.reach.end ≤ length d.channels → (o : Option ℕ) → idle_in d.channels w.reach ≡ o → RunsIf Any d (take_at now w d o)
    at w within None e = λ x ok k runs. inl (tt, record { runs = runs; same = refl })
    at w within (Some j) e = started Any w.number j d.waiting d (found d.channels w.reach j within e).0 (λ k ne. tt) (begun now w.service (channel_at d j))

pub finish_runs : (now j : ℕ) (d : Device) → RunsIf (λ k. k ≢ j) d (finish_of now j d)
finish_runs now j d =
    let P : Outcome → Type 0 = RunsIf (λ k. k ≢ j) d in
    either P (nat_lt j (length d.channels)) _ _ (λ t. either P (channel_at d j).running _ _ (λ r. either P (nat_lt now (channel_at d j).ends) _ _ (λ early x ok. absurd (cc ok)) (λ late.
    refilled (λ k. k ≢ j) now j (freed (channel_at d j)) d (grind (arith, nat_tests)) (λ k ne. ne) (λ runs. absurd (true≢false (sym runs))))) (λ r x ok. absurd (cc ok))) (λ t x ok. absurd (cc ok))

pub resume_runs : (now j : ℕ) (d : Device) → RunsIf Any d (resume_of now j d)
resume_runs now j d =
    either (RunsIf Any d) (nat_lt j (length d.channels)) _ _
    (λ t. refilled Any now j (resumed (channel_at d j)) d (grind (arith, nat_tests)) (λ k ne. tt) (λ runs. (tt, record { runs = runs; same = refl }))) (λ t x ok. absurd (cc ok))

-- ---- plans
-- the end of each command that runs is planned, on some channels
abbrev pub ArePlanned : (stays : ℕ → Type 0) → Device → Held Event → Type 0
ArePlanned stays d h = (k : ℕ) → stays k → (channel_at d k).running ≡ true → EndIn k (channel_at d k).ends h.events

abbrev pub IsPlanned : Device → Held Event → Type 0
IsPlanned d h = (k : ℕ) → (channel_at d k).running ≡ true → EndIn k (channel_at d k).ends h.events

-- a call isn't refused
pub told_ok : (answer : Result (Option Start) StepFault) (started : _) → AnswersAs answer started → (x : Option Start) × ((answer ≡ Ok x) × StartsAs x started)
told_ok (Ok start) started a = (start, (refl, a))
told_ok (Err fault) started a = absurd a

plan_start : (s : Start) (started : _) (a b : Held Event) → StartsAs (Some s) started → PlansEnd started a b → EndIn s.channel s.ends b.events
plan_start s None a b starts plans = absurd starts
plan_start s (Some t) a b starts plans =
    subst (λ (k : ℕ). EndIn k s.ends b.events) starts.1.0 (subst (λ (at : ℕ). EndIn t.channel at b.events) starts.1.1 (subst (λ (h : Held Event). EndIn t.channel t.ends h.events) (sym plans) (end_here t.channel t.ends a)))

plan_other : (k at : ℕ) (started : _) (a b : Held Event) → PlansEnd started a b → EndIn k at a.events → EndIn k at b.events
plan_other k at None a b same some = subst (λ (h : Held Event). EndIn k at h.events) (sym same) some
plan_other k at (Some t) a b plans some = subst (λ (h : Held Event). EndIn k at h.events) (sym plans) (end_pushed k at t.ends (End t.channel) a some)

pub call_plans : (stays : ℕ → Type 0) (d : Device) (o : Outcome) (started : _) (a b : Held Event) → RunsIf stays d o → AnswersAs o.0 started → PlansEnd started a b
    → ArePlanned stays d a → IsPlanned o.1 b
unfolding Runs
call_plans stays d o started a b runs answers plans planned k on =
    let told = told_ok o.0 started answers in
    elim (runs told.0 told.1.0 k on) [
      | inl ran ↦
          let before = planned k ran.0 ran.1.runs in
          subst (λ (at : ℕ). EndIn k at b.events) (sym ran.1.same) (plan_other k (channel_at d k).ends started a b plans before)
      | inr begins ↦
          let same : told.0 ≡ Some begins.start = cc (told.1.0, begins.is) in
          let it = plan_start begins.start started a b (subst (λ (x : Option Start). StartsAs x started) same told.1.1) plans in
          subst (λ (at : ℕ). EndIn k at b.events) begins.ends (subst (λ (j : ℕ). EndIn j begins.start.ends b.events) begins.channel it)
    ]
