use Rattle.std.proofs.Common.{◌≡◌, ◌∙◌, length}
use Rattle.nvme_latency.proofs.Ranks.{sum_within}
use Rattle.nvme_latency.proofs.ranked.Ranked.mean.Goals as goal

pub mean_of-requires-clause-some : goal.mean_of-requires-clause-some
mean_of-requires-clause-some c =
    let times = c.args.self.now.times in
    let size : c.len.result ≡ length times.items = c.len.ensures ∙ times.ok.0 in
    rw size (sum_within c.in-Some.longest times.items c.in-Some.ensures).0

pub mean_of-requires-clause-most : goal.mean_of-requires-clause-most
mean_of-requires-clause-most c =
    let times = c.args.self.now.times in
    let size : c.len.result ≡ length times.items = c.len.ensures ∙ times.ok.0 in
    rw (c.sum.ensures, size) (sum_within c.in-Some.longest times.items c.in-Some.ensures).1
