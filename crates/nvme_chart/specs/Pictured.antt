-- What a picture shows of a trace's events. (profile)
use Rattle.std.specs.Prelude.{◌≡◌}
use Rattle.nvme_arbiter.specs.History.{History}
use Rattle.nvme_trace.specs.Judged.{picks_in}
use Rattle.nvme_trace.specs.declared.records.Head.{Head}
use Rattle.nvme_stats.specs.Counted.{capped, commands_in}
use Rattle.nvme_stats.specs.Chosen.{IsPart, chosen}
use Rattle.nvme_stats.specs.declared.selection.Selection.{Selection}
use Rattle.nvme_chart.specs.declared.picture.Picture.{Picture}

-- the picture is that of a head and events
pub record IsPictured (head : Head) (past : History) (picture : Picture) : Type 0 where
  pub mechanism : picture.mechanism ≡ head.mechanism
  pub picks : picture.picks ≡ capped (picks_in past)
  pub commands : picture.commands ≡ capped (commands_in past)

-- the picture is that of a selection of a trace's events, and knows which these are
pub record IsPicturedPart (selection : Selection) (head : Head) (past : History) (picture : Picture) : Type 0 where
  pub pictured : IsPictured head (chosen head.mechanism selection past) picture
  pub part : IsPart selection past picture.part
