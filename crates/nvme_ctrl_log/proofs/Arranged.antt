-- Queues that are held, and classes that are set, in a log.
use Rattle.std.proofs.Common.{◌≡◌, ℕ, ◌==◌, Bool, true, false, if◌then◌else◌, List, [], ◌∷◌, ◌++◌, map, Some, None, refl, sym, ap, ◌∙◌, arith, true≢false}
use Rattle.std.specs.Prelude.{find}
use Rattle.std.specs.List.{All}
use Rattle.std.proofs.lemmas.Bool.{eq-eqb, eqb-true, ne_eqb}
use Rattle.std.proofs.lemmas.List.Elements.{All-head, All-tail}
use Rattle.std.proofs.lemmas.Option.{same_Some}
use Rattle.nvme_arbiter.specs.History.{settings_after}
use Rattle.nvme_arbiter.specs.Laws.{IsMeasured}
use Rattle.nvme_arbiter.proofs.PickLaws.{limited_are_measured, limited_prefixes}
use Rattle.nvme_log.proofs.Prefixes.{arbitration_of-append}
use Rattle.nvme_log.specs.Histories.{arbitration_of}
use Rattle.nvme_arbiter.specs.Lawful.{IsLimitedRun}
use Rattle.nvme_arbiter.specs.declared.pick.Seen.{Seen}
use Rattle.nvme_arbiter.specs.declared.pick.Pick.{Pick}
use Rattle.nvme_log.specs.declared.event.Event.TheVariants.{OpenSq}
use Rattle.nvme_log.specs.declared.event.Event.TheVariants as event
use Rattle.nvme_log.specs.Places.{observation_of}
use Rattle.nvme_ctrl_log.specs.Notes.{Notes, Note, Logged, Held, Classed, logged}
use Rattle.nvme_ctrl_log.specs.Observation.{is_held, class_set, shown, observed_of, NoneArranged}
use Rattle.nvme_ctrl_log.specs.Account.{IsLawful}
use Rattle.nvme_ctrl_log.specs.Laws.{ObservedAsInTheLog, HeldQueuesWait, HeldQueuesWaitUntilTold, LeavesHeld}
use Rattle.nvme_ctrl_log.proofs.Noted.{EachNote-after, logged-append}

-- where no queue was held, none is
none_is_held : (notes : Notes) (q : ℕ) → NoneArranged notes → is_held notes q ≡ false
none_is_held [] q none = refl
none_is_held (Held qid on ∷ notes) q none = absurd (cc none)
none_is_held (Classed qid class ∷ notes) q none = absurd (cc none)
none_is_held (Logged (OpenSq qid region cqid class) ∷ notes) q none = by (qid == q) (none_is_held notes q none) where
  by : (b : Bool) → is_held notes q ≡ false → (if b then false else is_held notes q) ≡ false
  by true rest = refl
  by false rest = rest
none_is_held (note ∷ notes) q none = none_is_held notes q none

-- where no class was set, none is
none_is_set : (notes : Notes) (q : ℕ) → NoneArranged notes → class_set notes q ≡ None
none_is_set [] q none = refl
none_is_set (Held qid on ∷ notes) q none = absurd (cc none)
none_is_set (Classed qid class ∷ notes) q none = absurd (cc none)
none_is_set (Logged (OpenSq qid region cqid class) ∷ notes) q none = by (qid == q) (none_is_set notes q none) where
  by : (b : Bool) → class_set notes q ≡ None → (if b then None else class_set notes q) ≡ None
  by true rest = refl
  by false rest = rest
none_is_set (note ∷ notes) q none = none_is_set notes q none

-- so each queue is shown as it is
shown_as_is : (notes : Notes) (xs : List Seen) → NoneArranged notes → map (shown notes) xs ≡ xs
shown_as_is notes [] none = refl
shown_as_is notes (x ∷ xs) none =
    let here : shown notes x ≡ x = rw (none_is_held notes x.qid none, none_is_set notes x.qid none) refl in
    λ t. here t ∷ shown_as_is notes xs none t

pub observed_as_in_the_log : ObservedAsInTheLog
observed_as_in_the_log notes none = shown_as_is notes (observation_of (logged notes)) none

-- ---- queues that are held
-- of a queue that is held, none is seen to wait
none_waits_seen : (notes : Notes) (q : ℕ) (xs : List Seen) (s : Seen) → is_held notes q ≡ true → find (λ (x : Seen). x.qid == q) (map (shown notes) xs) ≡ Some s → s.count ≡ 0
none_waits_seen notes q [] s held is = absurd (cc is)
none_waits_seen notes q (x ∷ xs) s held is = by (x.qid == q) refl is (λ found. none_waits_seen notes q xs s held found) where
  here : x.qid ≡ q → (shown notes x).count ≡ 0
  here same = ap (λ (b : Bool). if b then 0 else x.count) (ap (is_held notes) same ∙ held)

  by : (b : Bool) → (x.qid == q) ≡ b → (if b then Some (shown notes x) else find (λ (y : Seen). y.qid == q) (map (shown notes) xs)) ≡ Some s
      → (find (λ (y : Seen). y.qid == q) (map (shown notes) xs) ≡ Some s → s.count ≡ 0) → s.count ≡ 0
  by true e found rest = ap (λ (y : Seen). y.count) (sym (same_Some (shown notes x) s found)) ∙ here (eqb-true x.qid q e)
  by false e found rest = rest found

-- notes with a pick
abbrev with_pick : Notes → List Seen → Pick → Notes
with_pick before seen pick = Logged (event.Pick seen pick) ∷ before

-- so it isn't picked
pub held_queues_wait : HeldQueuesWait
held_queues_wait rules later before seen pick h = by (is_held before pick.qid) refl where
  seen_is : seen ≡ observed_of before
  seen_is = (EachNote-after (IsLawful rules) later (with_pick before seen pick) h.each).0.observed

  split : arbitration_of (logged (later ++ with_pick before seen pick)) ≡ arbitration_of (logged later) ++ arbitration_of (logged (with_pick before seen pick))
  split = ap arbitration_of (logged-append later (with_pick before seen pick)) ∙ arbitration_of-append (logged later) (logged (with_pick before seen pick))

  run : IsLimitedRun rules.mechanism rules.start.settings (arbitration_of (logged (with_pick before seen pick)))
  run = limited_prefixes rules.mechanism rules.start.settings (arbitration_of (logged later)) (arbitration_of (logged (with_pick before seen pick))) (rw split at h.lawful)

  measured : IsMeasured rules.mechanism (settings_after rules.start.settings (arbitration_of (logged before))) seen pick
  measured = limited_are_measured rules.mechanism rules.start.settings (arbitration_of (logged before)) seen pick run.0 run.1

  by : (b : Bool) → is_held before pick.qid ≡ b → b ≡ false
  by false e = refl
  by true e =
      let found : find (λ (x : Seen). x.qid == pick.qid) (observed_of before) ≡ Some measured.queue =
      ap (find (λ (x : Seen). x.qid == pick.qid)) (sym seen_is) ∙ measured.was_seen in
      let zero = none_waits_seen before pick.qid (observation_of (logged before)) measured.queue e found in
      let one = measured.at_least_one in
      let few = measured.within_count in
      absurd (omega (arith, zero, one, few))

-- a queue stays held where each note leaves it so
stays_held : (middle before : Notes) (q : ℕ) → All (LeavesHeld q) middle → is_held (middle ++ Held q true ∷ before) q ≡ true
stays_held [] before q each = rw (eq-eqb q q refl) refl
stays_held (note ∷ middle) before q each = by note (All-head (LeavesHeld q) note middle each) (stays_held middle before q (All-tail (LeavesHeld q) note middle each)) where
  by : (note : Note) → LeavesHeld q note → is_held (middle ++ Held q true ∷ before) q ≡ true → is_held (note ∷ (middle ++ Held q true ∷ before)) q ≡ true
  by (Held qid on) leaves held = one (qid == q) refl where
    one : (b : Bool) → (qid == q) ≡ b → (if b then on else is_held (middle ++ Held q true ∷ before) q) ≡ true
    one true e = leaves (eqb-true qid q e)
    one false e = held
  by (Logged (OpenSq qid region cqid class)) leaves held = ap (λ (b : Bool). if b then false else is_held (middle ++ Held q true ∷ before) q) (ne_eqb qid q leaves) ∙ held
  by note leaves held = held

pub held_queues_wait_until_told : HeldQueuesWaitUntilTold
held_queues_wait_until_told rules later middle before seen pick q h each same =
    let waits : is_held (middle ++ Held q true ∷ before) pick.qid ≡ false = held_queues_wait rules later (middle ++ Held q true ∷ before) seen pick h in
    let held : is_held (middle ++ Held q true ∷ before) pick.qid ≡ true = ap (is_held (middle ++ Held q true ∷ before)) same ∙ stays_held middle before q each in
    true≢false (sym held ∙ waits)
