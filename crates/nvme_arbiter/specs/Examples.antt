-- Worked examples, for which the definitions compute (Base Specification, Command Arbitration).
use Rattle.std.specs.Prelude.{◌≡◌, ℕ, ◌-◌, ◌==◌, true, false, if◌then◌else◌, List, [], ◌∷◌, map, Option, Some, None}
use Rattle.nvme_arbiter.specs.Settings.{ArbitrationFields, settings_of}
use Rattle.nvme_arbiter.specs.History.{Picked, Changed, History}
use Rattle.nvme_arbiter.specs.Lawful.{lawful_pick, limited_pick, IsLawfulRun}
use Rattle.nvme_arbiter.specs.declared.settings.Class.{Class}
use Rattle.nvme_arbiter.specs.declared.settings.Class.TheVariants.{Admin, Urgent, High, Medium, Low}
use Rattle.nvme_arbiter.specs.declared.settings.Mechanism.{Mechanism}
use Rattle.nvme_arbiter.specs.declared.settings.Mechanism.TheVariants.{Weighted}
use Rattle.nvme_arbiter.specs.declared.pick.Seen.{Seen}
use Rattle.nvme_arbiter.specs.declared.pick.Pick.{Pick}
use Rattle.nvme_arbiter.specs.declared.pick.OpenQueue.{OpenQueue}

abbrev pub queue : ℕ → Class → ℕ → Seen
queue qid class count = record { qid = qid; class = class; count = count }

-- `q1 2` and `q1 2 fresh`
abbrev pub q : ℕ → ℕ → Pick
q qid n = record { qid = qid; n = n; fresh = false }

abbrev pub fresh : ℕ → ℕ → Pick
fresh qid n = record { qid = qid; n = n; fresh = true }

-- what is seen after a pick, where nothing comes
abbrev pub lowered : Pick → List Seen → List Seen
lowered pick seen = map {A = Seen} {B = Seen} (λ s. if s.qid == pick.qid then record s { count = s.count - pick.n } else s) seen

-- what is seen after some picks
abbrev pub left : List Seen → List Pick → List Seen
left seen [] = seen
left seen (pick ∷ picks) = left (lowered pick seen) picks

-- the history in which these picks are made in turn
abbrev pub played : History → List Seen → List Pick → History
played past seen [] = past
played past seen (pick ∷ picks) = played (Picked seen pick ∷ past) (lowered pick seen) picks

-- the picks are a lawful run, after which nothing is picked
pub record EndsWith (mechanism : Mechanism) (first : ArbitrationFields) (past : History) (seen : List Seen) (picks : List Pick) : Type 0 where
  pub lawful : IsLawfulRun mechanism first (played past seen picks)
  pub idle : lawful_pick mechanism first (played past seen picks) (left seen picks) ≡ None

-- Round Robin, burst 1
abbrev pub four_queues : List Seen
four_queues = queue 0 Admin 2 ∷ queue 1 High 5 ∷ queue 2 Low 0 ∷ queue 3 Medium 1 ∷ []

abbrev pub four_queues_picks : List Pick
four_queues_picks = q 0 1 ∷ q 1 1 ∷ q 3 1 ∷ q 0 1 ∷ q 1 1 ∷ q 1 1 ∷ q 1 1 ∷ q 1 1 ∷ []

-- its third pick is of the lowest ready queue in place of the next
abbrev pub four_queues_restarted : List Pick
four_queues_restarted = q 0 1 ∷ q 1 1 ∷ q 0 1 ∷ []

-- one queue, no burst limit
abbrev pub full_queue : List Seen
full_queue = queue 1 High 256 ∷ []

-- two rounds: burst 2, High 4, Medium 2, Low 1
abbrev pub two_rounds : List Seen
two_rounds = queue 1 High 5 ∷ queue 2 High 5 ∷ queue 3 Medium 5 ∷ queue 4 Low 5 ∷ []

abbrev pub two_rounds_picks : List Pick
two_rounds_picks = q 1 2 ∷ q 2 2 ∷ q 3 2 ∷ q 4 1 ∷ fresh 1 2 ∷ q 2 2 ∷ q 3 2 ∷ q 4 1 ∷ fresh 1 1 ∷ q 2 1 ∷ q 3 1 ∷ q 4 1 ∷ fresh 4 1 ∷ fresh 4 1 ∷ []

-- its fifth pick is not told to be fresh
abbrev pub two_rounds_not_fresh : List Pick
two_rounds_not_fresh = q 1 2 ∷ q 2 2 ∷ q 3 2 ∷ q 4 1 ∷ q 1 2 ∷ []

-- what is picked next with a limit, after these picks of the two rounds
abbrev pub next_up_to : ℕ → List Pick → Option Pick
next_up_to limit picks = limited_pick limit Weighted (settings_of 0x0301_0001) (played [] two_rounds picks) (left two_rounds picks)

-- an urgent queue comes after two picks
abbrev pub before_urgent : History
before_urgent = played [] two_rounds (q 1 2 ∷ q 2 2 ∷ [])

abbrev pub with_urgent : List Seen
with_urgent = queue 1 High 3 ∷ queue 2 High 3 ∷ queue 3 Medium 5 ∷ queue 4 Low 5 ∷ queue 5 Urgent 3 ∷ []

abbrev pub with_urgent_picks : List Pick
with_urgent_picks = q 5 2 ∷ q 5 1 ∷ q 3 2 ∷ q 4 1 ∷ fresh 1 2 ∷ []

-- its first pick is of a level
abbrev pub urgent_behind_a_level : List Pick
urgent_behind_a_level = q 3 2 ∷ []

-- one pick, and then burst 4, High 3, Medium 1, Low 2: a round starts with all of the new credit, and q2 is after q1
abbrev pub changed_fields : ArbitrationFields
changed_fields = settings_of 0x0200_0102

abbrev pub before_change : History
before_change = Changed changed_fields ∷ played [] two_rounds (q 1 2 ∷ [])

abbrev pub after_change : List Seen
after_change = left two_rounds (q 1 2 ∷ [])

abbrev pub after_change_picks : List Pick
after_change_picks = q 2 3 ∷ q 3 1 ∷ q 4 2 ∷ fresh 1 3 ∷ []

-- its first pick is within what the one before the change left of the new weight
abbrev pub credit_outlives_change : List Pick
credit_outlives_change = q 2 1 ∷ []

-- Round Robin, two picks with burst 1, and then burst 2
abbrev pub four_queues_before_change : History
four_queues_before_change = Changed (settings_of 1) ∷ played [] four_queues (q 0 1 ∷ q 1 1 ∷ [])

abbrev pub four_queues_after_change : List Seen
four_queues_after_change = left four_queues (q 0 1 ∷ q 1 1 ∷ [])

abbrev pub four_queues_after_change_picks : List Pick
four_queues_after_change_picks = q 3 1 ∷ q 0 1 ∷ q 1 2 ∷ q 1 2 ∷ []

-- its first pick is of the lowest ready queue in place of the next
abbrev pub last_served_forgotten : List Pick
last_served_forgotten = q 0 1 ∷ []

-- two admin commands wait beside a queue of a level and an urgent one, with burst 4 and High 3
abbrev pub two_admin : List Seen
two_admin = queue 0 Admin 2 ∷ queue 1 High 3 ∷ queue 2 Urgent 1 ∷ []

-- both are taken by one pick
abbrev pub two_admin_at_once : List Pick
two_admin_at_once = q 0 2 ∷ []

-- an observation with the highest identifier and the highest count
abbrev pub at_limits : List Seen
at_limits = queue 0 Admin 256 ∷ queue 1 Urgent 0 ∷ queue 64 Low 256 ∷ []

-- queues in no order
abbrev pub in_no_order : List Seen
in_no_order = queue 3 Low 1 ∷ queue 1 Low 1 ∷ queue 2 Low 1 ∷ []

-- the queues of a board: identifiers 0 and 2 are open
abbrev pub on_board : ℕ → List (Option OpenQueue)
on_board count = Some (record { class = Admin; count = 2 }) ∷ None ∷ Some (record { class = Low; count = count }) ∷ []
