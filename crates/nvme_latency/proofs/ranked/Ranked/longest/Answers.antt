use Rattle.std.proofs.Common.{◌≡◌, ◌∙◌, ◌<◌, ◌==◌, false, sym, length, vec_len, arith}
use Rattle.std.proofs.lemmas.Bool.Decides.{nat_tests}
use Rattle.nvme_latency.proofs.Ranks.{last_is_longest}
use Rattle.nvme_latency.proofs.ranked.Ranked.longest.Goals as goal

pub returns : goal.returns
returns c =
    let times = c.args.self.now.times in
    let size : vec_len times ≡ length times.items = times.ok.0 in
    let full : (vec_len times == 0) ≡ false = sym c.is_empty.ensures ∙ c.if-is_empty.false in
    let some : 0 < vec_len times = grind (arith, nat_tests) in
    last_is_longest c.len.result c.index.result.now times.items c.args.self.now.ordered (omega (arith, size, some)) (c.len.ensures ∙ size) c.index.ensures
