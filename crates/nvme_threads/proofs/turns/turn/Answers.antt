use Rattle.nvme_threads.proofs.LoadedTurns.{stays-turned}
use Rattle.nvme_threads.proofs.Turned.{told, told_at}
use Rattle.nvme_threads.proofs.turns.turn.Goals as goal

pub returns-in-Err-clause-fault : goal.returns-in-Err-clause-fault
returns-in-Err-clause-fault g c =
    let turned = c.turn.ensures in
    rw c.from.ensures (told c.args.front.now _ c.in-Err.error turned.goes_on (record { ends = turned.account; jobs = turned.jobs; executed = turned.executed; results = turned.results }) c.in-Err.ensures.error)

pub returns-in-Err-clause-fault_at : goal.returns-in-Err-clause-fault_at
returns-in-Err-clause-fault_at g c =
    let turned = c.turn.ensures in
    rw c.from.ensures (told_at c.args.front.now _ c.in-Err.error turned.goes_on (record { ends = turned.account; jobs = turned.jobs; executed = turned.executed; results = turned.results }) c.in-Err.ensures.error)

pub returns-clause-loaded : goal.returns-clause-loaded
returns-clause-loaded g c = let turned = c.turn.ensures in stays-turned _ _ turned.goes_on (record { ends = turned.account; jobs = turned.jobs; executed = turned.executed; results = turned.results }) turned.loaded

pub returns-in-Err-clause-loaded : goal.returns-in-Err-clause-loaded
returns-in-Err-clause-loaded g c = let turned = c.turn.ensures in stays-turned _ _ turned.goes_on (record { ends = turned.account; jobs = turned.jobs; executed = turned.executed; results = turned.results }) turned.loaded

pub returns-in_err-refuse_starved-clause-loaded : goal.returns-in_err-refuse_starved-clause-loaded
returns-in_err-refuse_starved-clause-loaded g c =
    let turned = c.turn.ensures in
    stays-turned _ _ turned.goes_on (record { ends = turned.account; jobs = turned.jobs; executed = turned.executed; results = turned.results }) turned.loaded
