-- Sums over completion regions, and which of them were opened (profile).
use Rattle.std.specs.Prelude.{ℕ, zero, suc, ◌+◌, ◌==◌, ◌||◌, Bool, [], ◌∷◌}
use Rattle.nvme_log.specs.declared.event.Event.TheVariants.{OpenCq}
use Rattle.nvme_log.specs.Rules.{Past}

-- something of each completion region, summed over the first n
unfoldable pub over_regions : (ℕ → ℕ) → ℕ → ℕ
over_regions f zero = 0
over_regions f (suc n) = over_regions f n + f n

-- ---- the queues whose state is kept
-- a completion queue was opened on a region: the admin queue is on region 0
abbrev pub is_opened_cq : Past → ℕ → Bool
is_opened_cq [] x = x == 0
is_opened_cq (OpenCq qid region ∷ past) x = region == x || is_opened_cq past x
is_opened_cq (e ∷ past) x = is_opened_cq past x
