-- A law of coverage.
use Rattle.std.specs.Prelude.{◌≡◌, true}
use Rattle.nvme_audit.specs.declared.event.Event.{Event}
use Rattle.nvme_audit.specs.declared.facts.Start.{Start}
use Rattle.nvme_audit.specs.declared.verdict.Rule.{Rule}
use Rattle.nvme_audit.specs.declared.verdict.Verdict.TheVariants.{Broken}
use Rattle.nvme_audit.specs.Lives.{Past}
use Rattle.nvme_audit.specs.Lawful.{verdict}
use Rattle.nvme_audit.specs.Coverage.{asks}

-- a rule that is broken asked something: what never asked is kept by every event
abbrev pub BrokenIsAsked : Type 0
BrokenIsAsked = (start : Start) (past : Past) (event : Event) (rule : Rule) → verdict start past event ≡ Broken rule → asks start past event rule ≡ true
