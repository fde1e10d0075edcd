use Rattle.std.proofs.Common.{length, ap, arith}
use Rattle.std.proofs.lemmas.List.{length-append}
use Rattle.std.proofs.lemmas.List.FromFn.{length-map-range_with_len}
use Rattle.nvme_workload.specs.Scripts.{copies_of}
use Rattle.nvme_workload.proofs.scripts.push_item.Goals as goal

pub returns-clause-fits : goal.returns-clause-fits
returns-clause-fits c =
    let before = c.args.script.now.items in
    let command = c.in_ok-command.command in
    let count = c.in_ok-command.count in
    omega (arith, ap length c.in_ok-push_copies.ensures.ok, length-append before (copies_of command (length before) count), length-map-range_with_len (λ i. record command { cid = i }) (length before) count, c.in_ok-command.ensures.fits)
