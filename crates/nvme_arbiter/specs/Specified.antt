-- What the specification asks of each pick, whatever an arbiter chooses where it leaves a choice. That a pick is told to be fresh is no matter.
-- (Base Specification, Command Arbitration; Weighted Round Robin with Urgent Priority Class Arbitration; Arbitration feature)
use Rattle.std.specs.Prelude.{ℕ, ◌<◌, ◌≤◌, ◌==◌, ◌&&◌, ◌||◌, Bool, true, false, not, nat_lt, if◌then◌else◌, List, [], ◌∷◌, filter, find, Option, Some, None, All, IfSome, IsFalse}
use Rattle.std.specs.List.{list_any}
use Rattle.nvme_arbiter.specs.Settings.{ArbitrationFields, burst_of, weight_of, IsLevel}
use Rattle.nvme_arbiter.specs.Observation.{IsObservation, class_in, is_wanted}
use Rattle.nvme_arbiter.specs.History.{Picked, Changed, History, settings_after, is_in_class}
use Rattle.nvme_arbiter.specs.Standing.{used_of, used_with, used_before, nothing_used}
use Rattle.nvme_arbiter.specs.Lawful.{IsLawfulRun, IsLimitedRun}
use Rattle.nvme_arbiter.specs.declared.settings.Class.{Class}
use Rattle.nvme_arbiter.specs.declared.settings.Class.TheVariants.{Admin, Urgent, High, Medium, Low}
use Rattle.nvme_arbiter.specs.declared.settings.Mechanism.{Mechanism}
use Rattle.nvme_arbiter.specs.declared.settings.Mechanism.TheVariants.{RoundRobin, Weighted}
use Rattle.nvme_arbiter.specs.declared.kept.Used.{Used}
use Rattle.nvme_arbiter.specs.declared.pick.Seen.{Seen}
use Rattle.nvme_arbiter.specs.declared.pick.Pick.{Pick}
use Rattle.nvme_arbiter.specs.declared.specified.Rule.{Rule}
use Rattle.nvme_arbiter.specs.declared.specified.Rule.TheVariants as rule

-- ---- candidates
-- how many commands wait in a queue, where it was seen
abbrev pub waiting : Option Seen → ℕ
waiting None = 0
waiting (Some s) = s.count

-- "Arbitration is the method used to determine the Submission Queue from which the controller starts processing the next candidate command(s)":
-- a pick takes at least one command, and only such as wait in its queue
pub record TakesCandidates (seen : List Seen) (pick : Pick) : Type 0 where
  pub at_least_one : 1 ≤ pick.n
  pub that_wait : pick.n ≤ waiting (find (λ s. s.qid == pick.qid) seen)

-- ---- the burst
-- "the Arbitration Burst setting determines the maximum number of commands that the controller may start processing from that Submission Queue before arbitration shall again take place"
abbrev pub IsWithinBurst : ArbitrationFields → Pick → Type 0
IsWithinBurst settings pick = IfSome (burst_of settings) (λ burst. pick.n ≤ burst)

-- ---- the strict priority classes
-- "there are three strict priority classes and three weighted round robin priority levels": Admin, Urgent, and the levels as one, from the highest on
abbrev pub strict_class : Class → ℕ
strict_class Admin = 0
strict_class Urgent = 1
strict_class High = 2
strict_class Medium = 2
strict_class Low = 2

-- "If Submission Queue A is of higher strict priority than Submission Queue B, then all candidate commands in Submission Queue A shall start processing before candidate commands from Submission Queue B start processing."
-- Under round robin "all Submission Queues are treated with equal priority"
abbrev pub IsOfHighestPriority : Mechanism → List Seen → Pick → Type 0
IsOfHighestPriority RoundRobin seen pick = Unit {0}
IsOfHighestPriority Weighted seen pick = IfSome (class_in seen pick.qid) (λ class. All (λ s. 0 < s.count → strict_class class ≤ strict_class s.class) seen)

-- ---- rounds and credit
-- whether a queue is ready and of a level that has credit left: no other class has a weight
abbrev pub has_credit : ArbitrationFields → Used → Seen → Bool
has_credit settings used s = nat_lt 0 s.count && nat_lt (used_of used s.class) (weight_of settings s.class)

-- whether a queue was seen in a level
abbrev pub is_of_level : Option Class → Bool
is_of_level None = false
is_of_level (Some Admin) = false
is_of_level (Some Urgent) = false
is_of_level (Some High) = true
is_of_level (Some Medium) = true
is_of_level (Some Low) = true

-- whether a pick starts a round: it is of a level, and no ready queue is of a level that has credit left. (The specification doesn't say when a round ends: this reading is ours)
abbrev pub starts_round : ArbitrationFields → Used → List Seen → Pick → Bool
starts_round settings used seen pick = is_of_level (class_in seen pick.qid) && not (list_any (has_credit settings used) seen)

-- what was picked of each level in the round. A round also starts at the beginning, and with a change of the settings (ours, as above)
abbrev pub round_used : ArbitrationFields → History → Used
round_used first [] = nothing_used
round_used first (Changed settings ∷ past) = nothing_used
round_used first (Picked seen pick ∷ past) = used_with (used_before (starts_round (settings_after first past) (round_used first past) seen pick) (round_used first past)) (class_in seen pick.qid) pick.n

-- a weight "defines the number of commands that may be executed from the .. priority service class in each arbitration round", and a pick takes no more than "the remaining weighted round robin credits":
-- with this pick no more of a level is picked in the round than its weight
abbrev pub IsWithinCredit : Mechanism → ArbitrationFields → History → List Seen → Pick → Type 0
IsWithinCredit RoundRobin first past seen pick = Unit {0}
IsWithinCredit Weighted first past seen pick = (level : Class) → IsLevel level → used_of (round_used first (Picked seen pick ∷ past)) level ≤ weight_of (settings_after first past) level

-- ---- turns
-- the ready queues, those of a class where one is given
abbrev pub ready_in : Option Class → List Seen → List Seen
ready_in class seen = filter (is_wanted class) seen

-- whether a pick was of a class, where one is given
abbrev pub is_pick_in : Option Class → List Seen → Pick → Bool
is_pick_in None seen pick = true
is_pick_in (Some class) seen pick = is_in_class class (class_in seen pick.qid)

-- whether a queue has waited since the latest pick of another: at that pick of the class and at each since it was seen ready, and none was of it
abbrev pub has_waited : Option Class → ℕ → ℕ → History → Bool
has_waited class other qid [] = false
has_waited class other qid (Changed settings ∷ past) = has_waited class other qid past
has_waited class other qid (Picked seen pick ∷ past) =
    if is_pick_in class seen pick
    then list_any (λ s. s.qid == qid) (ready_in class seen) && (not (pick.qid == qid) && ((pick.qid == other) || has_waited class other qid past))
    else has_waited class other qid past

-- no ready queue has waited since the latest pick of this one: none is picked twice while another was ready throughout
abbrev pub NoneHasWaited : Option Class → History → List Seen → Pick → Type 0
NoneHasWaited class past seen pick = All (λ s. IsFalse (has_waited class pick.qid s.qid past)) (ready_in class seen)

-- "the controller shall implement round robin command arbitration amongst all Submission Queues, including the Admin Submission Queue";
-- "Round robin is used to arbitrate within multiple Submission Queues assigned to the same weighted round robin level", and so within the Urgent class
abbrev pub IsInTurn : Mechanism → History → List Seen → Pick → Type 0
IsInTurn RoundRobin past seen pick = NoneHasWaited None past seen pick
IsInTurn Weighted past seen pick = IfSome (class_in seen pick.qid) (λ class. NoneHasWaited (Some class) past seen pick)

-- ---- all of these
-- a pick keeps a rule after a history
abbrev pub Keeps : Rule → Mechanism → ArbitrationFields → History → List Seen → Pick → Type 0
Keeps rule.Candidates mechanism first past seen pick = TakesCandidates seen pick
Keeps rule.Burst mechanism first past seen pick = IsWithinBurst (settings_after first past) pick
Keeps rule.Priority mechanism first past seen pick = IsOfHighestPriority mechanism seen pick
Keeps rule.Credit mechanism first past seen pick = IsWithinCredit mechanism first past seen pick
Keeps rule.Turn mechanism first past seen pick = IsInTurn mechanism past seen pick

-- a pick is one that the specification allows after a history: it keeps each rule
abbrev pub IsSpecifiedPick : Mechanism → ArbitrationFields → History → List Seen → Pick → Type 0
IsSpecifiedPick mechanism first past seen pick = (rule : Rule) → Keeps rule mechanism first past seen pick

-- each pick of the history is made on an observation, and is one that the specification allows after the events before it
abbrev pub IsSpecifiedRun : Mechanism → ArbitrationFields → History → Type 0
IsSpecifiedRun mechanism first [] = Unit {0}
IsSpecifiedRun mechanism first (Changed settings ∷ past) = IsSpecifiedRun mechanism first past
IsSpecifiedRun mechanism first (Picked seen pick ∷ past) = IsObservation seen × IsSpecifiedPick mechanism first past seen pick × IsSpecifiedRun mechanism first past

-- what is lawful by the profile is allowed by the specification
abbrev pub LawfulRunsAreSpecified : Type 0
LawfulRunsAreSpecified = (mechanism : Mechanism) (first : ArbitrationFields) (past : History) → IsLawfulRun mechanism first past → IsSpecifiedRun mechanism first past

-- so is what is lawful with limits
abbrev pub LimitedRunsAreSpecified : Type 0
LimitedRunsAreSpecified = (mechanism : Mechanism) (first : ArbitrationFields) (past : History) → IsLimitedRun mechanism first past → IsSpecifiedRun mechanism first past
