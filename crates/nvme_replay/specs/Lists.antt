-- The list of a queue, of the requests of a file. (profile)
use Rattle.std.specs.Prelude.{◌≡◌, ◌<◌, ℕ, ◌+◌, Bool, true, false, List, Option, Some, None, map, option_map}
use Rattle.nvme_load.specs.declared.mix.Operation.{Operation}
use Rattle.nvme_load.specs.declared.mix.Operation.TheVariants.{Read, Write, Flush}
use Rattle.nvme_load.specs.declared.replay.Request.{Request}
use Rattle.nvme_replay.specs.declared.fault.LineFault.{LineFault}
use Rattle.nvme_replay.specs.declared.fault.LineFault.TheVariants.{Number, Operation as NotAnOperation, Seconds, PartOfBlock, Blocks, TooEarly, TooLate, NoColumn, NotFio, NoTimes, Outside, NoService}
use Rattle.nvme_replay.specs.declared.list.Served.{Served}
use Rattle.nvme_replay.specs.declared.list.Wanted.{Wanted}
use Rattle.nvme_replay.specs.declared.requests.Lined.{Lined}
use Rattle.nvme_replay.specs.Fractions.{fraction_of}
use Rattle.nvme_replay.specs.Speeds.{at_speed}

-- it is said how long an operation takes
abbrev pub is_served : Served → Operation → Bool
is_served s Read = s.read
is_served s Write = s.write
is_served s Flush = s.flush

-- a request as the queue asks for it: the same command, at the time that its speed makes of the file's
abbrev pub asked : Wanted → Request → Option Request
asked w r = option_map (λ at. record r { at = at }) (at_speed (fraction_of w.speed) r.at)

-- why there is none
abbrev pub TellsAskFault : Wanted → Request → LineFault → Type 0
TellsAskFault w r (NoService name queue) = (is_served w.served r.operation ≡ false) × (queue ≡ w.queue)
TellsAskFault w r (Outside size) = (w.size < r.block + r.blocks) × (size ≡ w.size)
TellsAskFault w r TooLate = asked w r ≡ None
TellsAskFault w r TooEarly = ⊥
TellsAskFault w r (Number name) = ⊥
TellsAskFault w r (NotAnOperation names) = ⊥
TellsAskFault w r Seconds = ⊥
TellsAskFault w r PartOfBlock = ⊥
TellsAskFault w r Blocks = ⊥
TellsAskFault w r (NoColumn name) = ⊥
TellsAskFault w r NotFio = ⊥
TellsAskFault w r NoTimes = ⊥

-- the requests of all lines in their order, each as the queue asks for it
abbrev pub AreAsked : Wanted → List Lined → List Request → Type 0
AreAsked w lined requests = map (λ r. Some r) requests ≡ map (λ it. asked w it.request) lined
