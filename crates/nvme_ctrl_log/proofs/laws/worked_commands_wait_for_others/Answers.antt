use Rattle.std.proofs.Common.{◌≡◌, ◌∙◌, ℕ, Some, None, length, refl, sym, ap, subst, arith, inl, inr}
use Rattle.std.proofs.lemmas.Bool.{cases_eq, ne_eqb}
use Rattle.nvme_admin.specs.Accepted.{effects_of, queue_table}
use Rattle.nvme_log.specs.Completions.{posted_to, unposted_of}
use Rattle.nvme_log.specs.Examples.{two_slots}
use Rattle.nvme_ctrl_log.specs.Deletions.{deleting}
use Rattle.nvme_ctrl_log.specs.Doorbells.{consumed, cq_slots}
use Rattle.nvme_ctrl_log.specs.Examples.{first_posted, reads_posted, third_answered}
use Rattle.nvme_ctrl_log.specs.Notes.{logged}
use Rattle.nvme_ctrl_log.specs.Posts.{IsFullRing}
use Rattle.nvme_ctrl_log.proofs.laws.worked_commands_wait_for_others.Goals as goal

pub returns-clause-device : goal.returns-clause-device
returns-clause-device c = record { has = record { tag = 7; stands = refl }; unanswered = refl }

pub returns-clause-answered : goal.returns-clause-answered
returns-clause-answered c w = cc w.unanswered

pub returns-clause-host : goal.returns-clause-host
unfolding effects_of queue_table
returns-clause-host c =
    let read : ◌≡◌ {A = ℕ} (consumed two_slots first_posted 0) 0 = refl in
    let slots : ◌≡◌ {A = ℕ} (cq_slots two_slots 0) 2 = refl in
    let posted : ◌≡◌ {A = ℕ} (length (posted_to (logged first_posted) 0)) 1 = refl in
    record { x = 0; goes_to = refl; full = omega (arith, read, slots, posted) }

pub returns-clause-host_read : goal.returns-clause-host_read
unfolding effects_of queue_table
returns-clause-host_read c w =
    let both : Some 0 ≡ Some w.x = w.goes_to in
    let x_is : ◌≡◌ {A = ℕ} 0 w.x = cc both in
    let full = subst (IsFullRing two_slots third_answered) (sym x_is) w.full in
    let read : ◌≡◌ {A = ℕ} (consumed two_slots third_answered 0) 2 = refl in
    let slots : ◌≡◌ {A = ℕ} (cq_slots two_slots 0) 2 = refl in
    let posted : ◌≡◌ {A = ℕ} (length (posted_to (logged third_answered) 0)) 2 = refl in
    absurd (omega (arith, full, read, slots, posted))

pub returns-clause-queue : goal.returns-clause-queue
returns-clause-queue c = record { of_admin = refl; region = 1; other = λ e. omega (arith, e); deletes = refl; unposted = λ e. cc e }

pub returns-clause-queue_done : goal.returns-clause-queue_done
returns-clause-queue_done c w = elim (cases_eq 1 w.region) [
  | inl same ↦
      let none : ◌≡◌ {A = ℕ} (unposted_of (logged reads_posted) 1) 0 = refl in
      w.unposted (sym (ap (unposted_of (logged reads_posted)) same) ∙ none)
  | inr other ↦
      let none : deleting (logged reads_posted) w.region ≡ None = rw (ne_eqb 1 w.region other) refl in
      absurd (cc (none, w.deletes))
]
