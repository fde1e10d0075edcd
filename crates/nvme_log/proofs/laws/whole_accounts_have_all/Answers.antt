use Rattle.std.proofs.Common.{◌≡◌, true, false, length, refl, ap}
use Rattle.nvme_log.proofs.laws.whole_accounts_have_all.Goals as goal

pub returns-clause-post : goal.returns-clause-post
returns-clause-post c h = let e : false ≡ true = h.all_posted 0 in cc e

pub returns-clause-collected : goal.returns-clause-collected
returns-clause-collected c h = let e : 3 ≡ 4 = ap length (h.all_collected 1) in cc e

pub returns-clause-fetched : goal.returns-clause-fetched
returns-clause-fetched c h = let e : 5 ≡ 6 = ap length (h.open_done 0 refl).all_fetched in cc e

pub returns-clause-submitted : goal.returns-clause-submitted
returns-clause-submitted c h = let e : 5 ≡ 6 = ap length (h.open_done 0 refl).all_sent in cc e

pub returns-clause-loaded : goal.returns-clause-loaded
returns-clause-loaded c h = let e : 4 ≡ 5 = ap length (h.loaded_whole refl 2) in cc e

pub returns-clause-in_order : goal.returns-clause-in_order
returns-clause-in_order c h = let it = h.sent_in_order 2 in cc it.1
