-- When a completion region has nothing to be posted to it. (Base Specification, Completion Queue Entry, Full Queue)
use Rattle.std.specs.Prelude.{◌≡◌, ℕ, ◌+◌, ◌≤◌, ◌⊎◌, true, length, Some}
use Rattle.nvme_log.specs.Rules.{FrontRules}
use Rattle.nvme_log.specs.Queues.{cq_region_of}
use Rattle.nvme_log.specs.Completions.{is_posted, posted_to}
use Rattle.nvme_ctrl_log.specs.Notes.{Notes, logged}
use Rattle.nvme_ctrl_log.specs.Doorbells.{cq_slots, consumed}
use Rattle.nvme_ctrl_log.specs.Tags.{is_through}

-- no slot of its ring is free: a full ring has one slot less than there are (Full Queue)
abbrev pub IsFullRing : FrontRules → Notes → ℕ → Type 0
IsFullRing rules notes x = consumed rules notes x + cq_slots rules x ≤ length (posted_to (logged notes) x) + 1

-- of the queues that post to it, all that is through is posted
abbrev pub AllPosted : Notes → ℕ → Type 0
AllPosted notes x = (r i : ℕ) → cq_region_of (logged notes) r ≡ Some x → is_through notes r i ≡ true → is_posted (logged notes) r i ≡ true

-- nothing may be posted to it
abbrev pub NonePostable : FrontRules → Notes → ℕ → Type 0
NonePostable rules notes x = IsFullRing rules notes x ⊎ AllPosted notes x
