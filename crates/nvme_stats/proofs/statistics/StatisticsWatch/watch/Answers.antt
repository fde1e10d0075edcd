use Rattle.std.proofs.Common.{◌≡◌, rules}
use Rattle.nvme_stats.proofs.statistics.StatisticsWatch.watch.Goals as goal

pub returns-in-Pick-clause-stands : goal.returns-in-Pick-clause-stands
returns-in-Pick-clause-stands c =
    let seen : c.deref.result.now ≡ c.in-Pick.seen.items = search rules in
    rw c.in-Pick.is (rw seen at c.note_pick.ensures.stands)
