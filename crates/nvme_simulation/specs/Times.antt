-- The time of a simulation, in picoseconds. (profile)
use Rattle.std.specs.Prelude.{ℕ}
use Rattle.nvme_clock.specs.Held.{held}
use Rattle.nvme_simulation.specs.declared.agenda.Agenda.{Agenda}

-- that of the last event
abbrev pub now_of : Agenda → ℕ
now_of a = (held a.events).time
