-- Laws of the statuses that the accounts of a controller show.
use Rattle.std.specs.Prelude.{◌≡◌, ◌<◌, None}
use Rattle.nvme_admin.specs.declared.bounds.TheConstants.{MAX_REGIONS}
use Rattle.nvme_log.specs.Rules.{FrontRules}
use Rattle.nvme_log.specs.Laws.{StartsWithAdmin}
use Rattle.nvme_ctrl_log.specs.Notes.{Notes}
use Rattle.nvme_ctrl_log.specs.Making.{placing_in}
use Rattle.nvme_ctrl_log.specs.Account.{IsAccount}
use Rattle.nvme_ctrl_log.specs.Laws.{NonePassed}
use Rattle.nvme_audit.specs.Lawful.{IsLawfulLog, IsFaultlessLog}
use Rattle.nvme_own_log.specs.Shown.{start_of, shown}
use Rattle.nvme_own_log.specs.Duties.{KeepsDuties, TurnsCqsAlone, KnowsHeads}
use Rattle.nvme_own_statuses.specs.Statuses.{IsSqdelAsked, IsAbortAsked, IsAsTold, IsTrueAbort, IsOfCommand, IsTrueOf, IsAnswerKept, IsUnaborted, is_set_features, is_delete_sq, is_create_sq, is_delete_cq, is_create_cq, EachPost, DeviceKeeps, DeviceTakesOwn}

-- ---- statuses, where the device keeps the same
-- a completion says that its command was aborted with its queue only where a Delete of that was fetched
abbrev pub SqdelsAreAsked : Type 0
SqdelsAreAsked = (rules : FrontRules) (notes : Notes) → StartsWithAdmin rules → placing_in rules ≡ None → IsAccount rules notes → KeepsDuties (start_of rules) (shown rules notes)
    → DeviceKeeps rules (IsSqdelAsked (start_of rules)) notes → EachPost (IsSqdelAsked (start_of rules)) (shown rules notes)

-- and that an Abort command aborted it only where one that named it was fetched
abbrev pub AbortsAreAsked : Type 0
AbortsAreAsked = (rules : FrontRules) (notes : Notes) → StartsWithAdmin rules → placing_in rules ≡ None → IsAccount rules notes → KeepsDuties (start_of rules) (shown rules notes)
    → DeviceKeeps rules (IsAbortAsked (start_of rules)) notes → EachPost (IsAbortAsked (start_of rules)) (shown rules notes)

-- a status is one of its command
abbrev pub StatusesAreOfCommands : Type 0
StatusesAreOfCommands = (rules : FrontRules) (notes : Notes) → StartsWithAdmin rules → placing_in rules ≡ None → IsAccount rules notes → KeepsDuties (start_of rules) (shown rules notes)
    → DeviceKeeps rules (IsOfCommand (start_of rules)) notes → EachPost (IsOfCommand (start_of rules)) (shown rules notes)

-- where the device says of no command that it hasn't that it was aborted, each command that an Abort says was aborted ends so
abbrev pub AbortedAreAsTold : Type 0
AbortedAreAsTold = (rules : FrontRules) (notes : Notes) → StartsWithAdmin rules → placing_in rules ≡ None → IsAccount rules notes → KeepsDuties (start_of rules) (shown rules notes)
    → DeviceTakesOwn notes → DeviceKeeps rules (IsAsTold (start_of rules)) notes → EachPost (IsAsTold (start_of rules)) (shown rules notes)

-- and it is outstanding
abbrev pub AbortsAreTrue : Type 0
AbortsAreTrue = (rules : FrontRules) (notes : Notes) → StartsWithAdmin rules → placing_in rules ≡ None → IsAccount rules notes → KeepsDuties (start_of rules) (shown rules notes)
    → DeviceTakesOwn notes → DeviceKeeps rules (IsTrueAbort (start_of rules)) notes → EachPost (IsTrueAbort (start_of rules)) (shown rules notes)

-- Set Features of Number of Queues succeeds only before a queue is created, and tells the same numbers each time, none of them FFFFh. This the
-- device never answers
abbrev pub FeaturesAreTrue : Type 0
FeaturesAreTrue = (rules : FrontRules) (notes : Notes) → StartsWithAdmin rules → placing_in rules ≡ None → IsAccount rules notes → KeepsDuties (start_of rules) (shown rules notes)
    → EachPost (IsTrueOf is_set_features (start_of rules)) (shown rules notes)

-- a Delete of a submission queue succeeds where that is open, and is refused as Invalid Queue Identifier where it isn't. This the device never answers
abbrev pub DeletesAreTrue : Type 0
DeletesAreTrue = (rules : FrontRules) (notes : Notes) → StartsWithAdmin rules → placing_in rules ≡ None → IsAccount rules notes → KeepsDuties (start_of rules) (shown rules notes)
    → EachPost (IsTrueOf is_delete_sq (start_of rules)) (shown rules notes)

-- a Create of a completion queue succeeds under an identifier that is free, with two slots at least, and isn't refused for that where it is free and
-- within the numbers that were told. At least one completion queue is allotted
abbrev pub CqCreatesAreTrue : Type 0
CqCreatesAreTrue = (rules : FrontRules) (notes : Notes) → StartsWithAdmin rules → placing_in rules ≡ None → IsAccount rules notes → KeepsDuties (start_of rules) (shown rules notes)
    → 0 < rules.start.ncq → EachPost (IsTrueOf is_create_cq (start_of rules)) (shown rules notes)

-- a Create of a submission queue succeeds under an identifier that is free, with two slots at least and onto a completion queue that is open, and isn't
-- refused for one of these where it is so. At least one queue of each kind is allotted, and at most as many submission queues as the table has room for
abbrev pub SqCreatesAreTrue : Type 0
SqCreatesAreTrue = (rules : FrontRules) (notes : Notes) → StartsWithAdmin rules → placing_in rules ≡ None → IsAccount rules notes → KeepsDuties (start_of rules) (shown rules notes)
    → 0 < rules.start.nsq → rules.start.nsq < MAX_REGIONS → 0 < rules.start.ncq → EachPost (IsTrueOf is_create_sq (start_of rules)) (shown rules notes)

-- a Delete of a completion queue succeeds where that is open and no submission queue is attached to it, is refused as Invalid Queue Identifier where it
-- isn't open, and as Invalid Queue Deletion where one is attached. The table has room for the submission queues that are allotted
abbrev pub CqDeletesAreTrue : Type 0
CqDeletesAreTrue = (rules : FrontRules) (notes : Notes) → StartsWithAdmin rules → placing_in rules ≡ None → IsAccount rules notes → KeepsDuties (start_of rules) (shown rules notes)
    → rules.start.nsq < MAX_REGIONS → EachPost (IsTrueOf is_delete_cq (start_of rules)) (shown rules notes)

-- ---- whole logs
-- the controller breaks no rule at any event of what an account shows, where the device breaks none by the statuses that it gives
abbrev pub LogsAreLawful : Type 0
LogsAreLawful = (rules : FrontRules) (notes : Notes) → StartsWithAdmin rules → placing_in rules ≡ None → IsAccount rules notes → KeepsDuties (start_of rules) (shown rules notes)
    → TurnsCqsAlone (shown rules notes) → 0 < rules.start.nsq → rules.start.nsq < MAX_REGIONS → 0 < rules.start.ncq
    → DeviceTakesOwn notes → DeviceKeeps rules (IsAnswerKept (start_of rules)) notes → IsLawfulLog (start_of rules) (shown rules notes)

-- nor does the host, where it writes heads of completion queues that it was told of
abbrev pub LogsAreFaultless : Type 0
LogsAreFaultless = (rules : FrontRules) (notes : Notes) → StartsWithAdmin rules → placing_in rules ≡ None → IsAccount rules notes → KeepsDuties (start_of rules) (shown rules notes)
    → TurnsCqsAlone (shown rules notes) → KnowsHeads (start_of rules) (shown rules notes) → 0 < rules.start.nsq → rules.start.nsq < MAX_REGIONS → 0 < rules.start.ncq
    → DeviceTakesOwn notes → DeviceKeeps rules (IsAnswerKept (start_of rules)) notes → IsFaultlessLog (start_of rules) (shown rules notes)

-- nor where no admin command was passed on, and the device says by no status that a command was aborted: then its statuses break no rule
abbrev pub IoLogsAreLawful : Type 0
IoLogsAreLawful = (rules : FrontRules) (notes : Notes) → StartsWithAdmin rules → placing_in rules ≡ None → IsAccount rules notes → KeepsDuties (start_of rules) (shown rules notes)
    → TurnsCqsAlone (shown rules notes) → 0 < rules.start.nsq → rules.start.nsq < MAX_REGIONS → 0 < rules.start.ncq
    → NonePassed notes → DeviceKeeps rules IsUnaborted notes → IsLawfulLog (start_of rules) (shown rules notes)
