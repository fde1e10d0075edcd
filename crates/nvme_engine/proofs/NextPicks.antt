-- The next pick at the rules of an engine, and the places that it needs.
use Rattle.std.proofs.Common.{◌≡◌, ℕ, ◌+◌, ◌<◌, ◌==◌, ◌&&◌, Bool, true, false, not, if◌then◌else◌, List, [], ◌∷◌, length, filter, find, Option, Some, refl, sym, ap, ◌∙◌, subst, arith, inl, inr}
use Rattle.std.specs.Prelude.{sum_by}
use Rattle.std.proofs.lemmas.Bool.{eqb-true}
use Rattle.std.proofs.lemmas.Option.{same_Some}
use Rattle.nvme_arbiter.specs.Limits.{highest_count}
use Rattle.nvme_arbiter.specs.Observation.{IsObservation}
use Rattle.nvme_arbiter.specs.Lawful.{lawful_pick}
use Rattle.nvme_arbiter.specs.declared.pick.Pick.{Pick}
use Rattle.nvme_arbiter.specs.declared.pick.Seen.{Seen}
use Rattle.nvme_arbiter.proofs.PickLaws.{picks_are_measured, wide_limits}
use Rattle.nvme_log.specs.Rules.{FrontRules, Past, upto}
use Rattle.nvme_log.specs.Queues.{Queue, open_sq}
use Rattle.nvme_log.specs.Places.{places, observation_of}
use Rattle.nvme_log.specs.Histories.{arbitration_of}
use Rattle.nvme_log.specs.Completions.{takes_place, is_posted, outstanding}
use Rattle.nvme_log.specs.declared.place.Place.{Place}
use Rattle.nvme_log.proofs.LoadedPlaces.{seen-in}
use Rattle.nvme_log.proofs.Members.{IsIn}
use Rattle.nvme_log.specs.declared.event.Event.TheVariants as event
use Rattle.nvme_ctrl_log.specs.Notes.{Notes, Logged, logged}
use Rattle.nvme_ctrl_log.specs.Observation.{observed_of}
use Rattle.nvme_ctrl_log.specs.Steps.{IsNextPick, IsNextWithin, picked_notes}
use Rattle.nvme_ctrl_log.proofs.Arranged.{observed_as_in_the_log}
use Rattle.nvme_ctrl.proofs.PickCall.{saw_board}
use Rattle.nvme_arbiter.specs.Queues.{seen_of}
use Rattle.nvme_arbiter.proofs.PickLaws.{whole_is_limited}
use Rattle.nvme_ctrl_content.specs.Content.{Content}
use Rattle.nvme_ctrl_content.proofs.Observing.{IsPickable, pickable, seen_is_observed}
use Rattle.nvme_engine.specs.Standing.{StandsBut, IsEngine}
use Rattle.nvme_engine.proofs.Controllers.{is_controller}
use Rattle.nvme_engine.specs.Calls.{next_of, seen_notes}
use Rattle.nvme_engine.specs.declared.engine.Engine.{Engine}
use Rattle.nvme_ctrl.specs.Standing.{Stands, IsController}
use Rattle.nvme_slots.specs.declared.slot.Slot.{Slot}

-- an engine's controller stands with its slots
pub controller_of : (e : Engine) → IsEngine e → (slots : List Slot) → slots ≡ e.slots.items → IsController e.controller slots
controller_of e is slots are = subst (λ (xs : List Slot). IsController e.controller xs) (sym are) (is_controller e is)

-- how many places are outstanding, of so many submission regions
abbrev outstanding_of : Past → ℕ → ℕ
outstanding_of past n = sum_by (λ (r : ℕ). length (filter (λ (i : ℕ). takes_place past r i && not (is_posted past r i)) (places past r))) (upto n)

-- what is found in a list is in it
found-in : {T : Type 0} (t : T → Bool) (x : T) (xs : List T) → find t xs ≡ Some x → IsIn x xs × (t x ≡ true)
found-in t x [] h = cc h
found-in t x (y ∷ xs) h = by (t y) refl h (found-in t x xs) where
  by : (b : Bool) → t y ≡ b → (if b then Some y else find t xs) ≡ Some x → (find t xs ≡ Some x → IsIn x xs × (t x ≡ true)) → IsIn x (y ∷ xs) × (t x ≡ true)
  by true e is rest = (inl (same_Some y x is), ap t (sym (same_Some y x is)) ∙ e)
  by false e is rest = let it = rest is in (inr it.0, it.1)

-- a queue that is open under an identifier
pub record IsOpen (past : Past) (q : ℕ) : Type 0 where
  pub queue : Queue
  pub is : open_sq past q ≡ Some queue

module _ (rules : FrontRules) (late : Bool) (notes : Notes) (rest : List Place) (e : Engine) (s : StandsBut rules late notes rest e) where
  abbrev past : Past
  past = logged notes

  -- so at its notes
  pub stands_with : (slots : List Slot) → slots ≡ e.slots.items → Stands s.their s.their_late notes e.controller slots
  stands_with slots are = subst (λ (xs : List Slot). Stands s.their s.their_late notes e.controller xs) (sym are) s.stands

  -- arbitration sees what it does of the log
  pub observed_is : observed_of notes ≡ observation_of past
  observed_is = observed_as_in_the_log notes s.plain.none_arranged

  pub observes : IsObservation (observation_of past)
  observes =
      subst (λ (xs : List Seen). IsObservation xs) (saw_board s.their s.their_late notes e.controller e.slots.items s.stands ∙ observed_is)
      s.stands.holds.arbitration.stands.observed

  pub same_next : lawful_pick s.their.mechanism s.their.start.settings (arbitration_of past) (observed_of notes) ≡ next_of rules notes
  same_next = λ t. lawful_pick (s.alike.mechanism t) (s.alike.start t).settings (arbitration_of past) (observed_is t)

  -- the pick that its controller makes of the observation of the log is that of the rules
  pub whole_next : lawful_pick s.their.mechanism s.their.start.settings (arbitration_of past) (observation_of past) ≡ next_of rules notes
  whole_next = λ t. lawful_pick (s.alike.mechanism t) (s.alike.start t).settings (arbitration_of past) (observation_of past)

  -- the next pick of its controller is that of the rules
  pub next_is : (o : Option Pick) → IsNextPick s.their notes o → o ≡ next_of rules notes
  next_is o next = next ∙ same_next

  pub next_was : (o : Option Pick) → next_of rules notes ≡ o → IsNextPick s.their notes o
  next_was o next = sym next ∙ sym same_next

  -- so is the one with room for as many commands as may wait
  pub within_is : (pick : Pick) → IsNextWithin s.their notes highest_count (Some pick) → IsNextPick s.their notes (Some pick)
  within_is pick next =
      next ∙ wide_limits highest_count s.their.mechanism s.their.start.settings (arbitration_of past) (observed_of notes) (subst (λ (xs : List Seen). IsObservation xs) (sym observed_is) observes) (omega arith)

  pub same_pick : (pick other : Pick) → next_of rules notes ≡ Some pick → IsNextPick s.their notes (Some other) → other ≡ pick
  same_pick pick other next is = same_Some other pick (next_is (Some other) is ∙ next)

  pub same_notes : (pick other : Pick) → other ≡ pick → picked_notes notes other ≡ seen_notes notes pick
  same_notes pick other same = ap (picked_notes notes) same ∙ ap (λ (xs : List Seen). with_seen xs) observed_is where
    with_seen : List Seen → Notes
    with_seen xs = Logged (event.Pick xs pick) ∷ notes

  -- it is of an open queue
  pub next_open : (pick : Pick) → next_of rules notes ≡ Some pick → IsOpen past pick.qid
  next_open pick next =
      let is = picks_are_measured rules.mechanism rules.start.settings (arbitration_of past) (observation_of past) pick observes next in
      let found = found-in (λ (x : Seen). x.qid == pick.qid) is.queue (observation_of past) is.was_seen in
      let sees = seen-in past is.queue found.0 in
      record { queue = sees.queue; is = ap (open_sq past) (sym (eqb-true is.queue.qid pick.qid found.1)) ∙ sees.is_open }

  -- as many places are outstanding at the rules
  pub same_outstanding : outstanding s.their past ≡ outstanding rules past
  same_outstanding = ap (outstanding_of past) (λ t. length (s.alike.sqs t))

  -- what is picked waits in an open queue
  pub due : (pick : Pick) → next_of rules notes ≡ Some pick → IsPickable past s.stands.content pick
  due pick next =
      let k : Content = s.stands.content in
      let h = s.stands.holds in
      let there : lawful_pick s.their.mechanism s.their.start.settings (arbitration_of past) (seen_of k.board.queues) ≡ Some pick =
      ap (λ (xs : List Seen). lawful_pick s.their.mechanism s.their.start.settings (arbitration_of past) xs) (seen_is_observed notes k h.regions h.queues s.stands.shown) ∙ sym (next_was (Some pick) next) in
      pickable s.their.mechanism s.their.start.settings (arbitration_of past) past k pick h.queues h.arbitration.stands.observed
      (whole_is_limited s.their.mechanism s.their.start.settings (arbitration_of past) (seen_of k.board.queues) pick h.arbitration.stands.observed there)
