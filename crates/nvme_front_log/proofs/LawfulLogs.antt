-- What shows of a front breaks no rule of the judge: its log is that of an account, and its device answers I/O commands alone, with their outcomes.
use Rattle.std.proofs.Common.{false, List, refl, subst}
use Rattle.nvme_log.specs.declared.place.Place.{Place}
use Rattle.nvme_log.specs.Rules.{FrontRules}
use Rattle.nvme_ctrl_log.specs.Notes.{Notes}
use Rattle.nvme_ctrl_log.specs.Account.{IsAccount}
use Rattle.nvme_own_statuses.proofs.IoLogs.{io_logs_are_lawful}
use Rattle.nvme_engine.specs.Standing.{StandsBut}
use Rattle.nvme_engine.specs.declared.engine.Engine.{Engine}
use Rattle.nvme_engine.proofs.Additions.{on_regions}
use Rattle.nvme_front_log.specs.Laws.{FrontsLogsAreLawful}
use Rattle.nvme_front_log.proofs.Outcomes.{device_keeps}
use Rattle.nvme_front_log.proofs.Beginnings.{starts}

-- the log of its controller is accounted
account : (rules : FrontRules) (notes : Notes) (rest : List Place) (e : Engine) → StandsBut rules false notes rest e → IsAccount rules notes
account rules notes rest e s = let early = s.in_time refl in subst (λ (x : FrontRules). IsAccount x notes) early.0 (s.stands.account early.1)

pub fronts_logs_are_lawful : FrontsLogsAreLawful
fronts_logs_are_lawful rules notes rest e s duties turns sqs few cqs =
    let own : IsAccount rules notes = account rules notes rest e s in
    io_logs_are_lawful rules notes (starts rules false notes rest e s) (on_regions rules s.alike.own_adds) own duties turns sqs few cqs s.plain.none_passed
    (device_keeps rules notes own.each s.plain.none_passed s.answers)
