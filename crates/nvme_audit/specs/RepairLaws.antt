-- A law of repairs.
use Rattle.std.specs.Prelude.{◌≡◌}
use Rattle.nvme_audit.specs.declared.event.Event.{Event}
use Rattle.nvme_audit.specs.declared.facts.Start.{Start}
use Rattle.nvme_audit.specs.Lives.{Past}
use Rattle.nvme_audit.specs.Lawful.{verdict, IsLawfulLog}
use Rattle.nvme_audit.specs.Repairs.{said}

-- until the controller breaks a rule no queue is let go: the first breach that is told is the first that there is
abbrev pub FirstBreachIsTold : Type 0
FirstBreachIsTold = (start : Start) (past : Past) (event : Event) → IsLawfulLog start past → said start past event ≡ verdict start past event
