-- Stretches of picks while a queue waits. (profile)
use Rattle.std.specs.Prelude.{◌≡◌, ◌≢◌, ◌≤◌, ℕ, ◌==◌, true, All, List, ◌++◌, length, sum_by}
use Rattle.std.specs.List.{list_any}
use Rattle.nvme_arbiter.specs.History.{History}
use Rattle.nvme_arbiter.specs.Lawful.{IsLimitedRun}
use Rattle.nvme_arbiter.specs.Observation.{ready_of}
use Rattle.nvme_arbiter.specs.Service.{Turn, events_of, sees_ready_in}
use Rattle.nvme_arbiter.specs.Settings.{ArbitrationFields}
use Rattle.nvme_arbiter.specs.declared.settings.Class.{Class}
use Rattle.nvme_arbiter.specs.declared.settings.Mechanism.{Mechanism}
use Rattle.nvme_arbiter.specs.declared.pick.Seen.{Seen}

-- the ready queues that are seen in a class are of these
abbrev pub IsAmong : (Class → List ℕ) → List Seen → Type 0
IsAmong ids seen = (class : Class) → All (λ s. list_any (λ i. s.qid == i) (ids class) ≡ true) (ready_of class seen)

-- how many commands are picked
abbrev pub commands_of : List Turn → ℕ
commands_of turns = sum_by (λ t. t.pick.n) turns

-- a stretch of picks of a lawful run, the newest first: each takes so many commands at most, the ready queues are of these, and a queue of a class is always
-- ready and never picked
pub record Waits (mechanism : Mechanism) (first : ArbitrationFields) (past : History) (ids : Class → List ℕ) (most : ℕ) (class : Class) (qid : ℕ) (turns : List Turn) : Type 0 where
  pub lawful : IsLimitedRun mechanism first (events_of turns ++ past)
  pub few : All (λ t. t.pick.n ≤ most) turns
  pub among : All (λ t. IsAmong ids t.seen) turns
  pub waits : All (λ t. sees_ready_in class qid t ≡ true) turns
  pub passed : All (λ t. t.pick.qid ≢ qid) turns

-- how many queues there are of each class
abbrev pub counts : (Class → List ℕ) → Class → ℕ
counts ids class = length (ids class)
