-- Where a trace begins: with what its arbiter kept then, which some history left. (Base Specification, Command Arbitration; what a head tells: profile)
use Rattle.std.specs.Prelude.{◌≡◌, ℕ, ◌==◌, ◌&&◌, ◌||◌, Bool, true, nat_le, Option, Some, None, is_some, is_none}
use Rattle.nvme_arbiter.specs.ByClass.{same_for_all}
use Rattle.nvme_arbiter.specs.Limits.{highest_qid}
use Rattle.nvme_arbiter.specs.Settings.{ArbitrationFields, weight_of}
use Rattle.nvme_arbiter.specs.History.{History}
use Rattle.nvme_arbiter.specs.Lawful.{IsLawfulRun, IsLimitedRun}
use Rattle.nvme_arbiter.specs.Standing.{StandsAt, nothing_used}
use Rattle.nvme_arbiter.specs.declared.settings.Class.{Class}
use Rattle.nvme_arbiter.specs.declared.settings.Class.TheVariants.{Admin, Urgent, High, Medium, Low}
use Rattle.nvme_arbiter.specs.declared.settings.Mechanism.{Mechanism}
use Rattle.nvme_arbiter.specs.declared.settings.Mechanism.TheVariants.{RoundRobin, Weighted}
use Rattle.nvme_arbiter.specs.declared.kept.Kept.{Kept}
use Rattle.nvme_arbiter.specs.declared.kept.Last.{Last}
use Rattle.nvme_arbiter.specs.declared.kept.Used.{Used}
use Rattle.nvme_judge.specs.Standing.{UsedIs, IsQuiet}

-- ---- the states that are read
-- whether a queue of a class can have the identifier, where there is one: the admin queue is queue 0 and the only one of its class
abbrev pub can_serve : Class → Option ℕ → Bool
can_serve class None = true
can_serve Admin (Some qid) = qid == 0
can_serve Urgent (Some qid) = nat_le 1 qid && nat_le qid highest_qid
can_serve High (Some qid) = nat_le 1 qid && nat_le qid highest_qid
can_serve Medium (Some qid) = nat_le 1 qid && nat_le qid highest_qid
can_serve Low (Some qid) = nat_le 1 qid && nat_le qid highest_qid

abbrev pub can_be_last : Option ℕ → Bool
can_be_last None = true
can_be_last (Some qid) = nat_le qid highest_qid

-- round robin keeps the identifier served last of all, the weighted mechanism that of each class
abbrev pub last_fits : Mechanism → Last → Bool
last_fits RoundRobin last =
    can_be_last last.all && (is_none last.by_class.admin && (is_none last.by_class.urgent && (is_none last.by_class.high && (is_none last.by_class.medium && is_none last.by_class.low))))
last_fits Weighted last =
    is_none last.all && (can_serve Admin last.by_class.admin && (can_serve Urgent last.by_class.urgent && (can_serve High last.by_class.high && (can_serve Medium last.by_class.medium && can_serve Low last.by_class.low))))

-- no more commands of a level are used than its weight, and none where none of its queues was served
abbrev pub can_use : ℕ → Option ℕ → ℕ → Bool
can_use weight last used = nat_le used weight && ((used == 0) || is_some last)

-- round robin has no rounds
abbrev pub used_fits : Mechanism → ArbitrationFields → Last → Used → Bool
used_fits RoundRobin settings last used = (used.high == 0) && ((used.medium == 0) && (used.low == 0))
used_fits Weighted settings last used =
    can_use (weight_of settings High) last.by_class.high used.high && (can_use (weight_of settings Medium) last.by_class.medium used.medium && can_use (weight_of settings Low) last.by_class.low used.low)

-- an arbiter can be in this state
pub record CanBegin (kept : Kept) : Type 0 where
  pub last : last_fits kept.mechanism kept.last ≡ true
  pub used : used_fits kept.mechanism kept.settings kept.last kept.used ≡ true

-- ---- the history before a trace
-- lawful events, of first settings that are those of the head, after which an arbiter keeps this
pub record IsPrior (kept : Kept) (prior : History) : Type 0 where
  pub lawful : IsLawfulRun kept.mechanism kept.settings prior
  pub stands : StandsAt kept.mechanism kept.settings prior kept
  -- as the specification counts, so much is used in the round
  pub used : UsedIs kept.mechanism kept.settings prior kept.used

-- such a state is that of some history, after which no queue waits since the latest pick of another
abbrev pub StartsHavePriors : Type 0
StartsHavePriors = (kept : Kept) → CanBegin kept → (prior : History) × IsPrior kept prior × IsQuiet prior

-- ---- the states that picks leave
-- what its mechanism doesn't use is as at first
abbrev pub KeepsItsOwn : Mechanism → Kept → Type 0
KeepsItsOwn RoundRobin kept = (kept.last.by_class ≡ same_for_all None) × (kept.used ≡ nothing_used)
KeepsItsOwn Weighted kept = kept.last.all ≡ None

-- each state that lawful picks leave, with any limits, can be that of a head
abbrev pub StatesCanBegin : Type 0
StatesCanBegin = (mechanism : Mechanism) (first : ArbitrationFields) (past : History) (kept : Kept) → IsLimitedRun mechanism first past → StandsAt mechanism first past kept → KeepsItsOwn mechanism kept → CanBegin kept
