use Rattle.std.proofs.Common.{rules}
use Rattle.std.proofs.lemmas.List.Elements.{AllZip-push}
use Rattle.nvme_threads.proofs.Joins.{moved-handle}
use Rattle.nvme_threads.proofs.join.join_all.Goals as goal

pub loop-handle-preserved : goal.loop-handle-preserved
loop-handle-preserved g c =
    let inv = c.loop-handle.invariant in
    record {
      room = search rules;
      ended = _;
      ran = rw c.push_reserved.ensures.items (AllZip-push g.T.Task.ran _ _ _ _ inv.ran c.join.ensures);
      all = moved-handle _ _ _ _ _ _ c.in-Some.ensures.steps.0 inv.all;
    }
