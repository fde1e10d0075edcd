-- Bounds in commands and in time together.
use Rattle.std.proofs.Common.{le_trans}
use Rattle.nvme_bounds.specs.Laws.{WaitsAreShort}
use Rattle.nvme_bounds.proofs.Ends.{ends_come_in_time}
use Rattle.nvme_bounds.proofs.Totals.{few_come_before}

pub waits_are_short : WaitsAreShort
waits_are_short mechanism first past ids most class qid turns runs longest least from to w bound h =
    ends_come_in_time runs longest least bound from to w.lasts w.some w.busy (le_trans w.refilled (few_come_before mechanism first past ids most class qid turns w.picks bound h))
