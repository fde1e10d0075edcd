-- How long an accounted log can be (profile).
use Rattle.std.specs.Prelude.{◌≡◌, ℕ, ◌*◌, ◌≤◌, List, [], length, sum_by}
use Rattle.nvme_entry.specs.declared.submission.Sqe.{Sqe}
use Rattle.nvme_entry.specs.declared.completion.Cqe.{Cqe}
use Rattle.nvme_log.specs.Rules.{Past, FrontRules, upto}
use Rattle.nvme_log.specs.Account.{IsAccount}

-- the most events of one command: its fetch, its pick or its abort, its completion, the queue that it opens or closes or the setting that it
-- changes, and the end of the deletion that it begins
abbrev pub events_each : ℕ
events_each = 5

-- how many commands were submitted to the first n submission regions
abbrev pub sent_below : (ℕ → List Sqe) → ℕ → ℕ
sent_below sent n = sum_by (λ (r : ℕ). length (sent r)) (upto n)

-- an accounted log has at most five events for each command that was submitted
abbrev pub LogsAreShort : Type 0
LogsAreShort = (rules : FrontRules) (sent : ℕ → List Sqe) (past : Past) (collected : ℕ → List Cqe) → IsAccount rules sent past collected
    → (n : ℕ) → ((r : ℕ) → n ≤ r → sent r ≡ []) → length past ≤ events_each * sent_below sent n
