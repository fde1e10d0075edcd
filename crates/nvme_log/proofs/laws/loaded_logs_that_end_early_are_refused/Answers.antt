use Rattle.std.proofs.Common.{◌≡◌, true, false, [], ◌∷◌}
use Rattle.nvme_admin.specs.Accepted.{effects_of, queue_table}
use Rattle.nvme_log.proofs.laws.loaded_logs_that_end_early_are_refused.Goals as goal

pub returns-clause-unfetched : goal.returns-clause-unfetched
unfolding effects_of queue_table
returns-clause-unfetched c h = let e : false ≡ true = h in cc e

pub returns-clause-candidates_left : goal.returns-clause-candidates_left
returns-clause-candidates_left c h = let e : 1 ∷ 2 ∷ [] ≡ [] = h 1 in cc e
