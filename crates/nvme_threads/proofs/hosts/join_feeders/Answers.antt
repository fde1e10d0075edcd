use Rattle.std.proofs.Common.{◌≡◌, map, sym, ap, ◌∙◌, subst}
use Rattle.nvme_threads.specs.Hosts.{feeder_seen}
use Rattle.nvme_threads.specs.inside.Drives.{AreFeeders, AreThreads}
use Rattle.nvme_threads.specs.declared.hosts.Feeders.{Feeders}
use Rattle.nvme_threads.proofs.Joins.{seen-zip, zip-of}
use Rattle.nvme_threads.proofs.hosts.join_feeders.Goals as goal

pub returns-in-AtWork : goal.returns-in-AtWork
returns-in-AtWork g c = λ tasks are whole.
    let back = c.join_all.ensures in
    let threads : AreThreads tasks c.in-AtWork.started = subst (λ (f : Feeders). AreFeeders tasks f) c.in-AtWork.is are in
    seen-zip feeder_seen _ _ (zip-of _ _ _ _ (threads (sym back.whole ∙ whole)) back.back)

pub returns-in-Ended : goal.returns-in-Ended
returns-in-Ended g c = λ tasks are whole.
    let same : c.in-Ended.tasks.items ≡ tasks = subst (λ (f : Feeders). AreFeeders tasks f) c.in-Ended.is are in
    ap (map feeder_seen) same
