-- The stages of a command, in their order. (profile)
use Rattle.nvme_simulation.specs.declared.flight.Stage.{Stage}
use Rattle.nvme_simulation.specs.declared.flight.Stage.TheVariants.{Came, Submitted, Fetched, Picked, Started, Done}

abbrev pub next_stage : Stage → Stage
next_stage Came = Submitted
next_stage Submitted = Fetched
next_stage Fetched = Picked
next_stage Picked = Started
next_stage Started = Done
next_stage Done = Done
