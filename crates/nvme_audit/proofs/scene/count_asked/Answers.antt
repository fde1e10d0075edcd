use Rattle.std.proofs.Common.{◌≡◌, slice_index_or, arith, rules, ◌∙◌}
use Rattle.nvme_audit.specs.declared.scene.Count.{Count}
use Rattle.nvme_audit.specs.declared.verdict.Rule.TheVariants.{FetchClosed}
use Rattle.nvme_audit.specs.Coverage.{counted}
use Rattle.nvme_audit.proofs.CountLemmas.{one_more_mapped, all_mapped}
use Rattle.nvme_audit.proofs.scene.count_asked.Goals as goal

pub loop-count-preserved : goal.loop-count-preserved
loop-count-preserved c =
    let none : Count = record { rule = FetchClosed; times = 0 } in
    let item : Count = slice_index_or c.loop-count.counts c.loop-count.count-index none in
    let more : Count = record { rule = item.rule; times = c.in_ok-count.field-0 } in
    let is : more ≡ counted c.args.scene.now item = search rules in
    one_more_mapped (counted c.args.scene.now) c.loop-count.count-index c.args.counts.now c.loop-count.counts none more c.loop-count.invariant (omega (arith, c.loop-count-test.true)) is

pub returns : goal.returns
returns c = c.loop-count.invariant ∙ all_mapped (counted c.args.scene.now) c.loop-count.count-index c.args.counts.now (omega (arith, c.loop-count-test.false))
