-- A law of what shows of a front. (profile)
use Rattle.std.specs.Prelude.{◌<◌, false, List}
use Rattle.nvme_admin.specs.declared.bounds.TheConstants.{MAX_REGIONS}
use Rattle.nvme_log.specs.Rules.{FrontRules}
use Rattle.nvme_log.specs.declared.place.Place.{Place}
use Rattle.nvme_ctrl_log.specs.Notes.{Notes}
use Rattle.nvme_audit.specs.Lawful.{IsLawfulLog}
use Rattle.nvme_own_log.specs.Shown.{start_of, shown}
use Rattle.nvme_own_log.specs.Duties.{KeepsDuties, TurnsCqsAlone}
use Rattle.nvme_engine.specs.Standing.{StandsBut}
use Rattle.nvme_engine.specs.declared.engine.Engine.{Engine}

-- the notes at which an engine stands show no broken rule, whichever picked places are still to be taken, where no region was added late
abbrev pub FrontsLogsAreLawful : Type 0
FrontsLogsAreLawful = (rules : FrontRules) (notes : Notes) (rest : List Place) (e : Engine) → StandsBut rules false notes rest e
    → KeepsDuties (start_of rules) (shown rules notes) → TurnsCqsAlone (shown rules notes)
    → 0 < rules.start.nsq → rules.start.nsq < MAX_REGIONS → 0 < rules.start.ncq → IsLawfulLog (start_of rules) (shown rules notes)
