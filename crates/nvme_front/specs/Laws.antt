-- A law of fronts, which tests the definitions (profile).
use Rattle.std.specs.Prelude.{◌≡◌, ℕ, true, false}
use Rattle.nvme_log.specs.Queues.{is_closed_region}
use Rattle.nvme_jobs.specs.Hands.{is_in_hand}
use Rattle.nvme_jobs.specs.JobAccount.{AccountsForJobs}
use Rattle.nvme_front.specs.View.{FrontView, AccountsForEnds, NoneInHandPosted, past_in}

-- no command of a closed region is in hand: when a deletion was finished, and so before it was answered, each job of its queue had its result
abbrev pub ClosedRegionsHaveResults : Type 0
ClosedRegionsHaveResults = (v : FrontView) → AccountsForEnds v → AccountsForJobs v.rules.sizes (past_in v) v.hands → NoneInHandPosted v
    → (r i : ℕ) → is_closed_region (past_in v) r ≡ true → is_in_hand v.hands r i ≡ false
