-- Whether the places of the next pick are free, whatever is picked and not taken.
use Rattle.std.proofs.Common.{◌≡◌, ℕ, ◌+◌, ◌≤◌, Bool, true, false, List, [], ◌∷◌, length, Some, None, refl, sym, ap, ◌∙◌, ltb-true, ltb-false, lt-ltb, arith}
use Rattle.std.specs.Prelude.{option_and_then, slice_get, min, nat_lt}
use Rattle.std.proofs.lemmas.Bool.{false_from_ne_true}
use Rattle.std.proofs.lemmas.Option.{same_Some}
use Rattle.nvme_entry.specs.declared.submission.Sqe.{Sqe}
use Rattle.nvme_log.specs.Completions.{outstanding}
use Rattle.nvme_log.specs.Histories.{admin_entry}
use Rattle.nvme_log.specs.Limits.{max_outstanding}
use Rattle.nvme_log.specs.Places.{entry_at, waiting}
use Rattle.nvme_log.specs.Queues.{Queue, admin_queue, open_sq}
use Rattle.nvme_log.specs.Rules.{FrontRules}
use Rattle.nvme_ctrl_log.specs.Notes.{Notes, logged}
use Rattle.nvme_ctrl_log.specs.Waits.{WaitsAt}
use Rattle.nvme_slots.specs.declared.slot.Slot.{Slot}
use Rattle.nvme_ctrl.specs.declared.state.Controller.{Controller}
use Rattle.nvme_ctrl.specs.kept.Kept.{StandsAt}
use Rattle.nvme_ctrl_content.proofs.OpenQueues.{admin_is_open}

-- a number above the limit is so where it is capped
capped : (n : ℕ) → nat_lt max_outstanding (min n 65535) ≡ nat_lt max_outstanding n
capped n = by (nat_lt max_outstanding n) refl where
  by : (b : Bool) → nat_lt max_outstanding n ≡ b → nat_lt max_outstanding (min n 65535) ≡ b
  by true e = let more = ltb-true max_outstanding n e in lt-ltb max_outstanding (min n 65535) (omega (arith, more))
  by false e =
      let few = ltb-false max_outstanding n e in
      false_from_ne_true (nat_lt max_outstanding (min n 65535)) (λ x. let more = ltb-true max_outstanding (min n 65535) x in omega (arith, few, more))

module _ (rules : FrontRules) (late : Bool) (notes : Notes) (c : Controller) (slots : List Slot) (s : StandsAt rules late notes c slots) where
  -- the admin queue is open
  pub admin_open : open_sq (logged notes) 0 ≡ Some admin_queue
  admin_open =
      let it = s.numbers.sqs.each 0 0 s.numbers.sqs.ids.admin in
      let below = s.holds.queues.sq_there 0 (record { qid = 0; cq_region = it.cq_region }) it.opened in
      admin_is_open rules late (logged notes) s.content s.holds (omega (arith, below))

  -- the command that waits first in it is the one that its next pick takes
  pub first_entry : (entry : Sqe) (cookie : ℕ) → WaitsAt notes 0 0 entry cookie → admin_entry (logged notes) ≡ Some entry
  first_entry entry cookie w =
      let queue : w.queue ≡ admin_queue = same_Some w.queue admin_queue (sym w.is_open ∙ admin_open) in
      let at : slice_get (waiting (logged notes) 0) 0 ≡ Some w.index = ap (λ (x : Queue). slice_get (waiting (logged notes) x.region) 0) (sym queue) ∙ w.at in
      ap (option_and_then (entry_at (logged notes) 0)) at ∙ ap (λ (x : Queue). entry_at (logged notes) x.region w.index) (sym queue) ∙ w.entry_is

  -- where none waits in it, it takes none
  pub no_entry : ((queue : Queue) → open_sq (logged notes) 0 ≡ Some queue → length (waiting (logged notes) queue.region) ≤ 0) → admin_entry (logged notes) ≡ None
  no_entry none = by (waiting (logged notes) 0) (none admin_queue admin_open) where
    by : (is : List ℕ) → length is ≤ 0 → option_and_then (entry_at (logged notes) 0) (slice_get is 0) ≡ None
    by [] few = refl
    by (i ∷ is) few = absurd (omega (arith, few))

  -- places are lacked by the count that is kept where they are by that of the log
  pub lacks : (places : ℕ) → nat_lt max_outstanding (min (c.outstanding + places) 65535) ≡ nat_lt max_outstanding (outstanding rules (logged notes) + places)
  lacks places =
      capped (c.outstanding + places) ∙ ap (λ (n : ℕ). nat_lt max_outstanding (n + places)) (s.numbers.outstanding_is ∙ s.holds.counts.outstanding_is)
