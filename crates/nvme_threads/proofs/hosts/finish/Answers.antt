use Rattle.std.proofs.Common.{sym, ◌∙◌}
use Rattle.nvme_threads.specs.Hosts.{drainer_seen}
use Rattle.nvme_threads.proofs.Joins.{seen-zip, zip-of}
use Rattle.nvme_threads.proofs.hosts.finish.Goals as goal

pub returns : goal.returns
returns g c = λ hosts are whole.
    let drainers = c.join_all-drainers.ensures in
    let crew = c.join_all-crew.ensures in
    let each = c.are_all-is_whole.ensures whole in
    record {
      feeders = c.join_feeders-feeders.ensures _ are.feeders each.0;
      drainers = seen-zip drainer_seen _ _ (zip-of _ _ _ _ (are.drainers (sym drainers.whole ∙ each.1)) drainers.back);
      crew = zip-of _ _ _ _ (are.crew (sym crew.whole ∙ each.2)) crew.back;
    }
