-- What a judge of the rules keeps, and what it says of a pick. (Base Specification, Command Arbitration; what is kept: profile)
use Rattle.std.specs.Prelude.{◌≡◌, ℕ, ◌<◌, ◌-◌, List, [], ◌∷◌, ◌++◌, Option, Some, None, All, IsFalse}
use Rattle.nvme_arbiter.specs.Limits.{queue_limit}
use Rattle.nvme_arbiter.specs.Settings.{ArbitrationFields, weight_of}
use Rattle.nvme_arbiter.specs.Observation.{class_in}
use Rattle.nvme_arbiter.specs.History.{History, settings_after}
use Rattle.nvme_arbiter.specs.Standing.{used_before}
use Rattle.nvme_arbiter.specs.Specified.{starts_round, round_used, has_waited, Keeps}
use Rattle.nvme_arbiter.specs.declared.settings.Class.{Class}
use Rattle.nvme_arbiter.specs.declared.settings.Class.TheVariants.{Admin, Urgent, High, Medium, Low}
use Rattle.nvme_arbiter.specs.declared.settings.Mechanism.{Mechanism}
use Rattle.nvme_arbiter.specs.declared.settings.Mechanism.TheVariants.{RoundRobin, Weighted}
use Rattle.nvme_arbiter.specs.declared.kept.Used.{Used}
use Rattle.nvme_arbiter.specs.declared.pick.Seen.{Seen}
use Rattle.nvme_arbiter.specs.declared.pick.Pick.{Pick}
use Rattle.nvme_arbiter.specs.declared.specified.Rule.{Rule}
use Rattle.nvme_arbiter.specs.declared.specified.Rule.TheVariants as rule
use Rattle.nvme_judge.specs.declared.turns.Turns.{Turns}
use Rattle.nvme_judge.specs.Turns.{picks_in, turn_after, turn_in, turns_of}

-- what a judge keeps
pub record JudgeView : Type 0 where
  pub mechanism : Mechanism
  pub settings : ArbitrationFields
  -- the commands of each level that were picked in the round
  pub used : Used
  pub turns : Turns
  pub picks : ℕ

-- what is kept of the queues tells the history
abbrev pub TellsTurns : Option Class → History → Turns → Type 0
TellsTurns class past turns = (qid : ℕ) → qid < queue_limit → turn_in (turns_of turns class) qid ≡ turn_after class qid past

-- what is used in the round, where the mechanism counts it
abbrev pub UsedIs : Mechanism → ArbitrationFields → History → Used → Type 0
UsedIs RoundRobin first past used = Unit {0}
UsedIs Weighted first past used = used ≡ round_used first past

-- after a history no queue waits since the latest pick of another
abbrev pub IsQuiet : History → Type 0
IsQuiet past = (class : Option Class) (other qid : ℕ) → IsFalse (has_waited class other qid past)

-- round robin keeps the turns among all queues
-- the weighted mechanism keeps those within each class, and what is used in the round. Of what was picked before the judge began it keeps that alone
abbrev pub TellsPast : Mechanism → ArbitrationFields → History → History → JudgeView → Type 0
TellsPast RoundRobin first prior past judge = TellsTurns None past judge.turns
TellsPast Weighted first prior past judge = (judge.used ≡ round_used first (past ++ prior)) × ((class : Class) → TellsTurns (Some class) past judge.turns)

-- a judge that began after a quiet history stands at the events since then, under a mechanism and first settings
pub record JudgeStandsAt (mechanism : Mechanism) (first : ArbitrationFields) (prior past : History) (judge : JudgeView) : Type 0 where
  pub mechanism_is : judge.mechanism ≡ mechanism
  pub settings_are : judge.settings ≡ settings_after first (past ++ prior)
  pub picks_are : judge.picks ≡ picks_in past
  pub tells : TellsPast mechanism first prior past judge
  pub quiet : IsQuiet prior

-- what is left of the weight of a level
abbrev pub left_of : ArbitrationFields → Used → Option Class → Option ℕ
left_of settings used None = None
left_of settings used (Some Admin) = None
left_of settings used (Some Urgent) = None
left_of settings used (Some High) = Some (weight_of settings High - used.high)
left_of settings used (Some Medium) = Some (weight_of settings Medium - used.medium)
left_of settings used (Some Low) = Some (weight_of settings Low - used.low)

-- how many commands of its level a pick may take in its round after a history, by the weights. A pick that starts a round has the whole weight
abbrev pub weight_left : Mechanism → ArbitrationFields → History → List Seen → Pick → Option ℕ
weight_left RoundRobin first past seen pick = None
weight_left Weighted first past seen pick = left_of (settings_after first past) (used_before (starts_round (settings_after first past) (round_used first past) seen pick) (round_used first past)) (class_in seen pick.qid)

-- the rules in the order in which they are told, each after those before it
abbrev pub rules_before : Rule → List Rule
rules_before rule.Candidates = []
rules_before rule.Burst = rule.Candidates ∷ []
rules_before rule.Priority = rule.Burst ∷ rule.Candidates ∷ []
rules_before rule.Credit = rule.Priority ∷ rule.Burst ∷ rule.Candidates ∷ []
rules_before rule.Turn = rule.Credit ∷ rule.Priority ∷ rule.Burst ∷ rule.Candidates ∷ []

-- a pick breaks a rule after a history, and keeps those before it
pub record IsFirstBroken (mechanism : Mechanism) (first : ArbitrationFields) (past : History) (seen : List Seen) (pick : Pick) (broken : Rule) : Type 0 where
  pub breaks : Keeps broken mechanism first past seen pick → ⊥
  pub keeps_before : All (λ other. Keeps other mechanism first past seen pick) (rules_before broken)
