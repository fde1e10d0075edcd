-- That each answered I/O command of a front has its ticket, and that its result was gained.
use Rattle.std.proofs.Common.{◌≡◌, List, sym, subst, inl, inr}
use Rattle.std.specs.Prelude.{reverse}
use Rattle.nvme_log.specs.declared.event.Event.{Event}
use Rattle.nvme_jobs.specs.Answers.{AnswersHaveTickets, AnswersHaveResults}
use Rattle.nvme_jobs.proofs.Answered.{answers-have_tickets, answers-have_results}
use Rattle.nvme_front.specs.View.{FrontView, past_in}
use Rattle.nvme_front.specs.declared.state.FrontState.{FrontState}
use Rattle.nvme_front.specs.inside.Room.{IsConsistent}
use Rattle.nvme_front.specs.inside.State.{past_of, view_of}
use Rattle.nvme_front.proofs.Ended.{admin_or_not}
use Rattle.nvme_front.proofs.Executions.{none_in_hand_posted, posted_are_served}

-- nothing is answered before the first event
pub tickets_of : (s : FrontState) → IsConsistent s → AnswersHaveTickets (past_of s)
tickets_of s k = elim (admin_or_not s) [
  | inl admin ↦ let runs = k.running admin in answers-have_tickets s.config.spaces (past_of s) s.jobs runs.jobs (posted_are_served s runs)
  | inr none ↦ subst (λ (z : List Event). AnswersHaveTickets (reverse z)) (sym (k.fresh none).log) (λ r i a. absurd (let no = a.posted in cc no))
]

pub results_of : (s : FrontState) → IsConsistent s → AnswersHaveResults s.config.spaces (past_of s) s.jobs.hands
results_of s k = elim (admin_or_not s) [
  | inl admin ↦
      let runs = k.running admin in
      answers-have_results s.config.spaces (past_of s) s.jobs runs.jobs (posted_are_served s runs) (none_in_hand_posted s k)
  | inr none ↦ subst (λ (z : List Event). AnswersHaveResults s.config.spaces (reverse z) s.jobs.hands) (sym (k.fresh none).log) (λ r i a. absurd (let no = a.posted in cc no))
]

-- the same by the view
pub tickets_seen : (s : FrontState) (v : FrontView) → view_of s ≡ v → IsConsistent s → AnswersHaveTickets (past_in v)
tickets_seen s v e k = subst (λ (z : FrontView). AnswersHaveTickets (past_in z)) e (tickets_of s k)
