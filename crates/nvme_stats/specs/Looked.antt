-- What is counted of the part of a trace that is looked at. (profile)
use Rattle.nvme_arbiter.specs.History.{History}
use Rattle.nvme_trace.specs.declared.records.Head.{Head}
use Rattle.nvme_stats.specs.Chosen.{IsPart, chosen}
use Rattle.nvme_stats.specs.Counted.{IsCounted}
use Rattle.nvme_stats.specs.declared.selection.Selection.{Selection}
use Rattle.nvme_stats.specs.declared.statistics.Statistics.{Statistics}

-- the statistics are those of a selection of a trace's events, and know which these are
pub record IsCountedPart (selection : Selection) (head : Head) (past : History) (statistics : Statistics) : Type 0 where
  pub counted : IsCounted head (chosen head.mechanism selection past) statistics
  pub part : IsPart selection past statistics.part
