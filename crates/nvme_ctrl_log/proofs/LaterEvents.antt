-- Logs with some events after them.
use Rattle.std.proofs.Common.{List, [], ◌∷◌}
use Rattle.nvme_log.specs.declared.event.Event.{Event}
use Rattle.nvme_log.specs.Rules.{Past}

-- a log with some events after it, in their order
abbrev pub with_events : List Event → Past → Past
with_events [] past = past
with_events (e ∷ rest) past = with_events rest (e ∷ past)
