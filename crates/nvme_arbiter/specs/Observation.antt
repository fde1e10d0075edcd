-- What arbitration sees of the submission queues at one moment.
-- (Base Specification, Command Arbitration; the limits: profile)
use Rattle.std.specs.Prelude.{◌≡◌, ℕ, ◌<◌, ◌≤◌, ◌↔◌, ◌==◌, ◌&&◌, ◌+◌, Bool, true, false, nat_lt, nat_le, List, [], ◌∷◌, filter, find, option_map, Option, Some, None, All, AllPairs}
use mathlib.Core.Bool.{beq}
use Rattle.nvme_arbiter.specs.Limits.{highest_qid, highest_count}
use Rattle.nvme_arbiter.specs.declared.settings.Class.{Class}
use Rattle.nvme_arbiter.specs.declared.settings.Class.TheVariants.{Admin, Urgent, High, Medium, Low}
use Rattle.nvme_arbiter.specs.declared.pick.Seen.{Seen}

-- whether two classes are one
abbrev pub is_class : Class → Class → Bool
is_class Admin Admin = true
is_class Urgent Urgent = true
is_class High High = true
is_class Medium Medium = true
is_class Low Low = true
is_class _ _ = false

-- a queue that can be seen: the admin queue is queue 0 and the only one of its class
pub record IsSeen (s : Seen) : Type 0 where
  pub qid : s.qid ≤ highest_qid
  pub count : s.count ≤ highest_count
  pub admin : (s.class ≡ Admin) ↔ (s.qid ≡ 0)

-- an observation: the open submission queues by ascending identifier, each with its class and its number of candidates
pub record IsObservation (seen : List Seen) : Type 0 where
  pub each : All IsSeen seen
  pub ascending : AllPairs (λ a b. a.qid < b.qid) seen

-- the tests of the two
abbrev pub is_seen : Seen → Bool
is_seen s = nat_le s.qid highest_qid && (nat_le s.count highest_count && beq (is_class s.class Admin) (s.qid == 0))

abbrev pub can_follow : ℕ → Seen → Bool
can_follow least s = nat_le least s.qid && is_seen s

abbrev pub is_observation_from : ℕ → List Seen → Bool
is_observation_from least [] = true
is_observation_from least (s ∷ rest) = can_follow least s && is_observation_from (s.qid + 1) rest

-- every count is 0
abbrev pub IsIdle : List Seen → Type 0
IsIdle seen = All (λ s. s.count ≡ 0) seen

-- the ready queues: those with commands that wait
abbrev pub ready : List Seen → List Seen
ready seen = filter (λ s. nat_lt 0 s.count) seen

-- the ready queues of a class
abbrev pub ready_of : Class → List Seen → List Seen
ready_of class seen = filter (λ s. is_class class s.class && nat_lt 0 s.count) seen

-- the class under which an identifier was seen
abbrev pub class_in : List Seen → ℕ → Option Class
class_in seen qid = option_map (λ s. s.class) (find (λ s. s.qid == qid) seen)

-- whether a queue is ready, in a class where one is given
abbrev pub is_wanted : Option Class → Seen → Bool
is_wanted None s = nat_lt 0 s.count
is_wanted (Some class) s = is_class class s.class && nat_lt 0 s.count
