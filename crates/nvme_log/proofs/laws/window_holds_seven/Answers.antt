use Rattle.std.proofs.Common.{◌≡◌, true, false, rules}
use Rattle.nvme_admin.specs.Accepted.{effects_of, queue_table}
use Rattle.nvme_log.proofs.laws.window_holds_seven.Goals as goal

pub returns-clause-seventh : goal.returns-clause-seventh
unfolding effects_of queue_table
returns-clause-seventh c = search rules

pub returns-clause-eighth : goal.returns-clause-eighth
unfolding effects_of queue_table
returns-clause-eighth c h = let e : false ≡ true = h.1 in cc e
