use Rattle.std.proofs.Common.{sym, ◌∙◌}
use Rattle.nvme_threads.specs.Hosts.{ends_seen}
use Rattle.nvme_threads.proofs.Joins.{seen-zip, zip-of}
use Rattle.nvme_threads.proofs.loaded_rings.fn.in_threads.scope.Goals as goal

pub returns : goal.returns
returns g c = λ whole.
    let back = c.joined.ensures in
    seen-zip ends_seen _ _ (zip-of _ _ _ _ (c.start_all-started.ensures (sym back.whole ∙ whole)) back.back)
