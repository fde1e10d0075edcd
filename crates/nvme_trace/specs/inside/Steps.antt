-- One event more of a survey, as it is kept (profile).
use Rattle.std.specs.Prelude.{◌≤◌, ◌<◌, ℕ, ◌+◌, ◌==◌, ◌&&◌, Bool, false, List, ◌++◌, Option, Some, None}
use Rattle.nvme_arbiter.specs.Settings.{ArbitrationFields}
use Rattle.nvme_arbiter.specs.History.{History}
use Rattle.nvme_arbiter.specs.Lawful.{cut}
use Rattle.nvme_arbiter.specs.Standing.{last_with, used_before}
use Rattle.nvme_arbiter.specs.declared.settings.Class.{Class}
use Rattle.nvme_arbiter.specs.declared.settings.Class.TheVariants.{Admin, Urgent, High, Medium, Low}
use Rattle.nvme_arbiter.specs.declared.settings.Mechanism.{Mechanism}
use Rattle.nvme_arbiter.specs.declared.settings.Mechanism.TheVariants.{RoundRobin, Weighted}
use Rattle.nvme_arbiter.specs.declared.kept.Kept.{Kept}
use Rattle.nvme_arbiter.specs.declared.kept.Used.{Used}
use Rattle.nvme_arbiter.specs.declared.pick.Pick.{Pick}
use Rattle.nvme_trace.specs.Surveys.{Follows, IsSurveyOf, capped_used}
use Rattle.nvme_trace.specs.declared.records.Head.{Head}
use Rattle.nvme_trace.specs.declared.survey.Counts.{Counts}
use Rattle.nvme_trace.specs.declared.survey.Surveyor.{Surveyor}

-- what is used with the commands of a pick of a class
abbrev pub used_plus : Used → Option Class → ℕ → Used
used_plus used None n = used
used_plus used (Some Admin) n = used
used_plus used (Some Urgent) n = used
used_plus used (Some High) n = record used { high = capped_used (used.high + n) }
used_plus used (Some Medium) n = record used { medium = capped_used (used.medium + n) }
used_plus used (Some Low) n = record used { low = capped_used (used.low + n) }

-- what is kept after any pick of a class
abbrev pub followed : Kept → Option Class → Pick → Kept
followed k class pick = record k { last = record (last_with k.last class pick.qid) { all = Some pick.qid }; used = used_plus (used_before pick.fresh k.used) class pick.n }

-- a pick that takes no more commands than there is room for, where that is told
abbrev pub within_room : Option ℕ → Pick → Pick
within_room None pick = pick
within_room (Some room) pick = cut room pick

-- whether nothing is used in the round, as it is kept
abbrev pub unused_by : Mechanism → Used → Bool
unused_by RoundRobin used = false
unused_by Weighted used = (used.high == 0) && ((used.medium == 0) && (used.low == 0))

-- no weight is above what is counted
pub record WeightsFit (s : ArbitrationFields) : Type 0 where
  pub high : s.high < 65535
  pub medium : s.medium < 65535
  pub low : s.low < 65535

-- what is used is no more than what is counted
pub record UsedFits (used : Used) : Type 0 where
  pub high : used.high ≤ 65535
  pub medium : used.medium ≤ 65535
  pub low : used.low ≤ 65535

-- no more are counted than there are picks
pub record AreFew (counts : Counts) (picks : ℕ) : Type 0 where
  pub nothing_ready : counts.nothing_ready ≤ picks
  pub queue : counts.queue ≤ picks
  pub number : counts.number ≤ picks
  pub fresh : counts.fresh ≤ picks

-- a surveyor that began after a history stands after the events in these lines
pub record SurveysAt (head : Head) (prior past : History) (lines : List (ℕ × List ℕ)) (s : Surveyor) : Type 0 where
  pub follows : Follows head.mechanism head.settings (past ++ prior) s.kept
  pub told : IsSurveyOf head prior past lines s.survey
