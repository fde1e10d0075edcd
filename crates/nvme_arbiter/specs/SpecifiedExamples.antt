-- Worked traces for the rules of the specification: what each of them alone refuses, and what none refuses though the profile would pick otherwise.
-- (Base Specification, Command Arbitration)
use Rattle.std.specs.Prelude.{◌≢◌, List, [], ◌∷◌}
use Rattle.nvme_arbiter.specs.Settings.{ArbitrationFields, settings_of}
use Rattle.nvme_arbiter.specs.Observation.{IsObservation}
use Rattle.nvme_arbiter.specs.History.{Picked, Changed, History}
use Rattle.nvme_arbiter.specs.Lawful.{IsLawfulRun}
use Rattle.nvme_arbiter.specs.Specified.{Keeps, IsSpecifiedRun}
use Rattle.nvme_arbiter.specs.Examples.{queue, q, played, four_queues}
use Rattle.nvme_arbiter.specs.declared.settings.Class.TheVariants.{Urgent, High, Low}
use Rattle.nvme_arbiter.specs.declared.settings.Mechanism.{Mechanism}
use Rattle.nvme_arbiter.specs.declared.pick.Seen.{Seen}
use Rattle.nvme_arbiter.specs.declared.pick.Pick.{Pick}
use Rattle.nvme_arbiter.specs.declared.specified.Rule.{Rule}

-- after a run that the specification allows, a pick breaks this rule and keeps the others
pub record BreaksAlone (broken : Rule) (mechanism : Mechanism) (first : ArbitrationFields) (past : History) (seen : List Seen) (pick : Pick) : Type 0 where
  pub so_far : IsSpecifiedRun mechanism first past
  pub observed : IsObservation seen
  pub breaks : Keeps broken mechanism first past seen pick → ⊥
  pub keeps_others : (other : Rule) → other ≢ broken → Keeps other mechanism first past seen pick

-- a run that the specification allows and the profile doesn't
pub record IsOtherChoice (mechanism : Mechanism) (first : ArbitrationFields) (past : History) : Type 0 where
  pub allowed : IsSpecifiedRun mechanism first past
  pub not_by_profile : IsLawfulRun mechanism first past → ⊥

-- ---- strict priority: the admin queue is empty
abbrev pub no_admin : List Pick
no_admin = q 0 1 ∷ q 0 1 ∷ []

-- ---- credit, with burst 2, High 4, Medium 2, Low 1
-- High has used all of its weight, and the other levels nothing
abbrev pub high_spent : List Pick
high_spent = q 1 2 ∷ q 2 2 ∷ []

-- High has 1 left
abbrev pub high_nearly_spent : List Pick
high_nearly_spent = q 1 2 ∷ q 2 1 ∷ []

-- a low queue alone, whose level is spent after one command
abbrev pub one_low : List Seen
one_low = queue 4 Low 5 ∷ []

-- with weights 1: High is spent, no other level is ready, and an urgent queue is served
abbrev pub urgent_between : History
urgent_between = Picked (queue 1 High 4 ∷ queue 5 Urgent 1 ∷ []) (q 5 1) ∷ Picked (queue 1 High 5 ∷ []) (q 1 1) ∷ []

-- then Low is ready, which has credit
abbrev pub then_low : List Seen
then_low = queue 1 High 4 ∷ queue 4 Low 5 ∷ []

-- ---- turns
-- the settings change after a pick of queue 1
abbrev pub over_change : History
over_change = Changed (settings_of 1) ∷ played [] four_queues (q 1 1 ∷ [])

abbrev pub two_urgent : List Seen
two_urgent = queue 1 Urgent 2 ∷ queue 2 Urgent 2 ∷ []

-- an urgent queue is served between two picks of a level
abbrev pub two_high : List Seen
two_high = queue 1 High 4 ∷ queue 2 High 5 ∷ []

abbrev pub urgent_within : History
urgent_within = Picked (queue 1 High 4 ∷ queue 2 High 5 ∷ queue 5 Urgent 1 ∷ []) (q 5 1) ∷ Picked (queue 1 High 5 ∷ queue 2 High 5 ∷ []) (q 1 1) ∷ []

-- queue 2 gets its first commands after a pick of queue 1
abbrev pub newcomer : List Seen
newcomer = queue 1 Low 2 ∷ queue 2 Low 1 ∷ []

abbrev pub before_newcomer : History
before_newcomer = Picked (queue 1 Low 3 ∷ []) (q 1 1) ∷ []

-- ---- other choices
-- the levels in turn, a command at a time: a second round begins with Low
abbrev pub levels_in_turn : List Pick
levels_in_turn = q 1 1 ∷ q 3 1 ∷ q 4 1 ∷ q 2 1 ∷ q 3 1 ∷ q 1 1 ∷ q 2 1 ∷ q 4 1 ∷ q 3 2 ∷ []

-- ---- each pick counts: the first takes nothing
abbrev pub after_nothing : History
after_nothing = played [] four_queues (q 1 0 ∷ q 3 1 ∷ [])
