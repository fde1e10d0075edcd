-- Which ends and numbers of queues are refused. (profile)
use Rattle.std.specs.Prelude.{◌≡◌, ◌<◌, ◌⊎◌, ℕ}
use Rattle.nvme_model.specs.declared.model.TheConstants.{MAX_COMMANDS, MAX_QUEUES}
use Rattle.nvme_model.specs.declared.model.EndFault.{EndFault}
use Rattle.nvme_model.specs.declared.model.EndFault.TheVariants.{Commands}
use Rattle.nvme_model.specs.declared.model.QueuesFault.{QueuesFault}
use Rattle.nvme_model.specs.declared.model.QueuesFault.TheVariants.{NoQueues, TooManyQueues}

abbrev pub TellsEndFault : ℕ → EndFault → Type 0
TellsEndFault commands Commands = (commands ≡ 0) ⊎ (MAX_COMMANDS < commands)

abbrev pub TellsQueuesFault : ℕ → QueuesFault → Type 0
TellsQueuesFault queues NoQueues = queues ≡ 0
TellsQueuesFault queues TooManyQueues = MAX_QUEUES < queues
