use Rattle.std.proofs.Common.{Some, rules, tests}
use Rattle.std.proofs.lemmas.Iterator.{YieldsList-from_slice}
use Rattle.std.proofs.lemmas.Iterator.Search.{any_from_yields_List}
use Rattle.nvme_numbers.specs.Told.{is_of}
use Rattle.nvme_numbers.specs.declared.answer.RankedQueue.{RankedQueue}
use Rattle.nvme_numbers.proofs.answer.has_queue.Goals as goal

pub returns : goal.returns
returns c =
    any_from_yields_List (λ (q : RankedQueue). is_of (Some c.args.class) q.class) _ _ _ c.any.ensures.ran (YieldsList-from_slice c.args.queues.now cc)
    (λ x b q k. search (rules, tests))
