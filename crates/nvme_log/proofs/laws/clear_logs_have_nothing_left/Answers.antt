use Rattle.std.proofs.Common.{◌≡◌, true, false, [], ◌∷◌, Some, None}
use Rattle.nvme_log.proofs.laws.clear_logs_have_nothing_left.Goals as goal

pub returns-clause-waiting : goal.returns-clause-waiting
returns-clause-waiting c h = let e : 0 ∷ [] ≡ [] = h.none_waits 0 in cc e

pub returns-clause-unposted : goal.returns-clause-unposted
returns-clause-unposted c h = let e : false ≡ true = h.all_posted 0 in cc e

pub returns-clause-pending : goal.returns-clause-pending
returns-clause-pending c h = let e : Some (record { qid = 1; region = 1 }) ≡ None = h.none_pending in cc e
