-- What holds of every engine that stands at a log.
use Rattle.std.proofs.Common.{◌≡◌, ℕ, ◌<◌, ◌≤◌, Bool, true, List, length, Some, sym, ap, ◌∙◌, subst, arith}
use Rattle.std.specs.Prelude.{sum_by, filter, not, ◌&&◌, option_map}
use Rattle.std.specs.List.{All}
use Rattle.std.proofs.lemmas.List.{length-map}
use Rattle.std.proofs.lemmas.Option.{same_Some}
use Rattle.nvme_entry.specs.declared.submission.Sqe.{Sqe}
use Rattle.nvme_arbiter.specs.Limits.{highest_count, highest_qid}
use Rattle.nvme_arbiter.specs.History.{settings_after}
use Rattle.nvme_arbiter.specs.Laws.{IsMeasured}
use Rattle.nvme_arbiter.specs.Observation.{IsObservation}
use Rattle.nvme_arbiter.specs.declared.pick.Pick.{Pick}
use Rattle.nvme_arbiter.specs.declared.pick.Seen.{Seen}
use Rattle.nvme_arbiter.proofs.PickLaws.{picks_are_measured}
use Rattle.nvme_admin.specs.declared.region.Region.{Region}
use Rattle.nvme_log.specs.declared.event.Event.TheVariants.{Fetch}
use Rattle.nvme_log.specs.declared.place.Place.{Place}
use Rattle.nvme_log.specs.Rules.{FrontRules, Past, upto, sq_regions_of}
use Rattle.nvme_log.specs.Queues.{Queue, admin_queue, open_sq, qid_of_region}
use Rattle.nvme_log.specs.Places.{fetched, waiting, picked, places, unaborted_below, observation_of}
use Rattle.nvme_log.specs.Histories.{arbitration_of}
use Rattle.nvme_log.specs.Completions.{outstanding, takes_place, is_posted}
use Rattle.nvme_ctrl_log.specs.Notes.{Notes, logged}
use Rattle.nvme_ctrl_log.specs.Tags.{is_out}
use Rattle.nvme_ctrl_content.specs.Content.{Attachment, Candidate}
use Rattle.nvme_slots.specs.Pool.{AreApart}
use Rattle.nvme_ctrl_log.proofs.Arranged.{observed_as_in_the_log}
use Rattle.nvme_ctrl_content.proofs.OpenQueues.{admin_is_open}
use Rattle.nvme_ctrl.proofs.OutPlaces.{few_out}
use Rattle.nvme_ctrl.proofs.PickCall.{saw_board}
use Rattle.nvme_engine.specs.Calls.{next_of}
use Rattle.nvme_engine.specs.Standing.{StandsBut}
use Rattle.nvme_engine.specs.declared.engine.Engine.{Engine}
use Rattle.nvme_jobs.specs.inside.Standing.{IsOther}

-- how many places are outstanding, of so many submission regions
abbrev outstanding_of : Past → ℕ → ℕ
outstanding_of past n = sum_by (λ (r : ℕ). length (filter (λ (i : ℕ). takes_place past r i && not (is_posted past r i)) (places past r))) (upto n)

module _ (rules : FrontRules) (late : Bool) (notes : Notes) (rest : List Place) (e : Engine) (s : StandsBut rules late notes rest e) where
  -- its controller has as many submission regions
  number : length (sq_regions_of rules) ≡ s.stands.content.nsq
  number = ap (λ (rs : List Region). length rs) (sym s.alike.sqs) ∙ s.stands.holds.tabled.sq_number

  -- the identifier of an open queue is within the limit, and its region is there
  pub open_is_few : (q : ℕ) (queue : Queue) → open_sq (logged notes) q ≡ Some queue → (q ≤ highest_qid) × (queue.region < length (sq_regions_of rules))
  open_is_few q queue is =
      let at = s.stands.holds.queues.attached q queue is in
      let below = s.stands.holds.queues.sq_there queue.region (record { qid = q; cq_region = at.cq_region }) at.attached in
      (s.stands.holds.queues.few q queue is, omega (arith, below, number))

  -- the region of an open queue was opened for it
  pub open_owns : (q : ℕ) (queue : Queue) → open_sq (logged notes) q ≡ Some queue → qid_of_region (logged notes) queue.region ≡ Some q
  open_owns q queue is =
      s.stands.holds.queues.qid_is queue.region
      ∙ ap (option_map (λ (a : Attachment). a.qid)) (s.stands.holds.queues.attached q queue is).attached

  -- so two open queues have two regions
  pub one_queue : (p q : ℕ) (x y : Queue) → open_sq (logged notes) p ≡ Some x → open_sq (logged notes) q ≡ Some y → x.region ≡ y.region → p ≡ q
  one_queue p q x y at_p at_q same =
      same_Some p q (sym (open_owns p x at_p) ∙ ap (qid_of_region (logged notes)) same ∙ open_owns q y at_q)

  -- the admin queue is open
  pub admin_open : 0 < length (sq_regions_of rules) → open_sq (logged notes) 0 ≡ Some admin_queue
  admin_open some = admin_is_open s.their s.their_late (logged notes) s.stands.content s.stands.holds (omega (arith, some, number))

  -- no more commands of a queue wait than arbitration counts
  pub few_wait : (r : ℕ) → length (waiting (logged notes) r) ≤ highest_count
  few_wait r =
      let at = s.stands.holds.regions r in
      omega (arith, at.few_waiting, ap (λ (is : List ℕ). length is) at.waiting_is, length-map (s.stands.content.sq r).window (λ (c : Candidate). c.index))

  -- no more commands of a region were picked than were fetched and not aborted
  pub few_picked : (r : ℕ) → picked (logged notes) r ≤ unaborted_below (logged notes) r (length (fetched (logged notes) r))
  few_picked r =
      let at = s.stands.holds.regions r in
      subst (λ (xs : List Sqe). picked (logged notes) r ≤ unaborted_below (logged notes) r (length xs)) (sym at.fetched_is) at.few_picked

  -- a fetch leaves which commands are picked
  pub fetch_is_other : (r index : ℕ) (entry : Sqe) → IsOther (logged notes) (Fetch r index entry)
  fetch_is_other r index entry =
      let at = s.stands.holds.regions r in
      (at.none_aborted (length (fetched (logged notes) r)) (omega (arith, ap (λ (xs : List Sqe). length xs) at.fetched_is)), few_picked r)

  -- as many places are outstanding as tags are out, at least
  pub few_tags : (tags : List ℕ) → AreApart tags → All (λ (t : ℕ). is_out notes t ≡ true) tags → length tags ≤ outstanding rules (logged notes)
  few_tags tags apart outs =
      let few = few_out s.their s.their_late notes e.controller e.slots.items s.stands tags apart outs in
      let same : outstanding s.their (logged notes) ≡ outstanding rules (logged notes) =
      ap (outstanding_of (logged notes)) (ap (λ (rs : List Region). length rs) s.alike.sqs) in
      omega (arith, few, same)

  -- what arbitration sees is an observation, so the next pick is measured
  pub next_measured : (pick : Pick) → next_of rules notes ≡ Some pick
      → IsMeasured rules.mechanism (settings_after rules.start.settings (arbitration_of (logged notes))) (observation_of (logged notes)) pick
  next_measured pick next =
      let observes : IsObservation (observation_of (logged notes)) =
      subst (λ (xs : List Seen). IsObservation xs)
      (saw_board s.their s.their_late notes e.controller e.slots.items s.stands ∙ observed_as_in_the_log notes s.plain.none_arranged)
      s.stands.holds.arbitration.stands.observed in
      picks_are_measured rules.mechanism rules.start.settings (arbitration_of (logged notes)) (observation_of (logged notes)) pick observes next
