-- Laws of engines, in the words of a front's log. (profile)
use Rattle.std.specs.Prelude.{false}
use Rattle.nvme_log.specs.Rules.{FrontRules}
use Rattle.nvme_log.specs.Places.{fetched}
use Rattle.nvme_log.specs.Completions.{posted_to}
use Rattle.nvme_log.specs.Account.{IsAccount}
use Rattle.nvme_ctrl_log.specs.Notes.{Notes, logged}
use Rattle.nvme_engine.specs.Standing.{StandsAt}
use Rattle.nvme_engine.specs.declared.engine.Engine.{Engine}

-- the events at which an engine stands are an accounted log of what was fetched and posted, where no region was added late
abbrev pub EnginesKeepAccounts : Type 0
EnginesKeepAccounts = (rules : FrontRules) (notes : Notes) (e : Engine) → StandsAt rules false notes e → IsAccount rules (fetched (logged notes)) (logged notes) (posted_to (logged notes))
