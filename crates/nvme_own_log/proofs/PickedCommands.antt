-- What a pick leaves and makes of the pending admin commands.
use Rattle.std.proofs.Common.{◌≡◌, ℕ, ◌<◌, ◌&&◌, Bool, true, false, if◌then◌else◌, List, ◌∷◌, refl, sym, ap, ◌∙◌, subst, arith, ◌⊎◌, inl, inr, eq-eqb}
use Rattle.std.specs.Prelude.{slice_get}
use Rattle.std.proofs.lemmas.Bool.{cases_eq, ne_eqb}
use Rattle.std.proofs.lemmas.Option.{same_Some}
use Rattle.nvme_entry.specs.declared.submission.Sqe.{Sqe}
use Rattle.nvme_arbiter.specs.declared.pick.Pick.{Pick}
use Rattle.nvme_arbiter.specs.declared.pick.Seen.{Seen}
use Rattle.nvme_admin.specs.History.{TableHistory}
use Rattle.nvme_admin.specs.Checks.{is_success}
use Rattle.nvme_admin.specs.Accepted.{status_of, verdict_of}
use Rattle.nvme_log.specs.declared.event.Event.TheVariants as event
use Rattle.nvme_log.specs.Rules.{FrontRules, Past}
use Rattle.nvme_log.specs.Places.{picked, waiting, entry_at}
use Rattle.nvme_log.specs.Histories.{table_history}
use Rattle.nvme_log.specs.Aborts.{is_index}
use Rattle.nvme_log.specs.Completions.{is_posted, table_before}
use Rattle.nvme_log.specs.Effects.{made_by, made_last}
use Rattle.nvme_ctrl_log.proofs.TakenCommands.{IsSound}
use Rattle.nvme_own_log.proofs.AdminTurns.{TakesNext, takes_next, takes_other}
use Rattle.nvme_own_log.proofs.Phases.{IsPending, IsAccepted}

module _ (rules : FrontRules) (past : Past) (seen : List Seen) (pick : Pick) (sound : IsSound rules (event.Pick seen pick ∷ past)) where
  -- ---- of an I/O queue
  pub accepted_io : (pick.qid ≡ 0 → ⊥) → (k : ℕ) (e : Sqe) → IsAccepted rules past k e → IsAccepted rules (event.Pick seen pick ∷ past) k e
  accepted_io io k e a = (omega (arith, takes_other rules past seen pick sound io, a.0), rw (ne_eqb pick.qid 0 io) a.1)

  pub accepted_io_before : (pick.qid ≡ 0 → ⊥) → (k : ℕ) (e : Sqe) → IsAccepted rules (event.Pick seen pick ∷ past) k e → IsAccepted rules past k e
  accepted_io_before io k e a = (
    omega (arith, takes_other rules past seen pick sound io, a.0),
    subst (λ (b : Bool). is_success (status_of rules.start (if b && is_index k (slice_get (waiting past 0) 0) then table_history rules past else table_before rules past k) e) ≡ true) (ne_eqb pick.qid 0 io) a.1,
  )

  -- ---- of the admin queue
  module _ (admin : pick.qid ≡ 0) where
    abbrev next : TakesNext rules past seen pick
    next = takes_next rules past seen pick sound admin

    abbrev table : TableHistory
    table = table_history rules past

    table_is : (k : ℕ) → (k ≡ picked past 0 → ⊥) → table_before rules (event.Pick seen pick ∷ past) k ≡ table_before rules past k
    table_is k other = rw (eq-eqb pick.qid 0 admin, next.oldest, ne_eqb (picked past 0) k (λ e. other (sym e))) refl

    table_now : table_before rules (event.Pick seen pick ∷ past) (picked past 0) ≡ table
    table_now = rw (eq-eqb pick.qid 0 admin, next.oldest, eq-eqb (picked past 0) (picked past 0) refl) refl

    pub accepted_more : (k : ℕ) (e : Sqe) → IsAccepted rules past k e → IsAccepted rules (event.Pick seen pick ∷ past) k e
    accepted_more k e a =
        let below : k < picked past 0 = a.0 in
        (omega (arith, next.one_more, below), ap (λ (t : TableHistory). is_success (status_of rules.start t e)) (table_is k (λ same. omega (arith, same, below))) ∙ a.1)

    -- what was accepted after it was accepted before, or is its command
    pub accepted_parts : (k : ℕ) (e : Sqe) → IsPending rules past k e → IsAccepted rules (event.Pick seen pick ∷ past) k e
        → IsAccepted rules past k e ⊎ ((next.entry ≡ e) × (is_success (status_of rules.start table next.entry) ≡ true))
    accepted_parts k e p a = elim (cases_eq k (picked past 0)) [
      | inl same ↦
          let entry : next.entry ≡ e = same_Some next.entry e (sym next.is_there ∙ ap (entry_at past 0) (sym same) ∙ p.0) in
          inr (
            entry,
            subst (λ (x : Sqe). is_success (status_of rules.start table x) ≡ true) (sym entry)
                (subst (λ (t : TableHistory). is_success (status_of rules.start t e) ≡ true) (ap (table_before rules (event.Pick seen pick ∷ past)) same ∙ table_now) a.1),
          )
      | inr other ↦
          let below : k < picked (event.Pick seen pick ∷ past) 0 = a.0 in
          inl (omega (arith, other, below, next.one_more), subst (λ (t : TableHistory). is_success (status_of rules.start t e) ≡ true) (table_is k other) a.1)
    ]

    pub made_is_by : made_last rules (event.Pick seen pick ∷ past) ≡ made_by past (verdict_of rules.start table next.entry)
    made_is_by = rw (eq-eqb pick.qid 0 admin, next.entry_is) refl

    pub pending_now : is_posted past 0 (picked past 0) ≡ false → IsPending rules past (picked past 0) next.entry
    pending_now unposted = (next.is_there, unposted)

    pub accepted_now : is_success (status_of rules.start table next.entry) ≡ true → IsAccepted rules (event.Pick seen pick ∷ past) (picked past 0) next.entry
    accepted_now success = (omega (arith, next.one_more), ap (λ (t : TableHistory). is_success (status_of rules.start t next.entry)) table_now ∙ success)
