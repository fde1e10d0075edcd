use Rattle.std.proofs.Common.{rules, tests}
use Rattle.std.proofs.lemmas.Iterator.{YieldsList-from_slice}
use Rattle.std.proofs.lemmas.Iterator.Search.{any_from_yields_List}
use Rattle.nvme_numbers.specs.Tables.{is_few}
use Rattle.nvme_numbers.specs.declared.answer.Member.{Member}
use Rattle.nvme_numbers.proofs.answer.table.any_few.Goals as goal

pub returns : goal.returns
returns c =
    any_from_yields_List (λ (m : Member). is_few c.args.above m.row.spread) _ _ _ c.any.ensures.ran (YieldsList-from_slice c.args.members.now cc)
    (λ x b q k. search (rules, tests))
