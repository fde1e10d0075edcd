use Rattle.std.proofs.Common.{arith}
use Rattle.nvme_waits.proofs.Taken.{behind_all, behind_more, behind_none, picked_all, picked_more, picked_none}
use Rattle.nvme_waits.proofs.waits.pick_some.Goals as goal

pub loop-turn-init : goal.loop-turn-init
loop-turn-init c = record {
  taken = picked_none c.args.at c.args.pick.now.qid c.args.pick.now.n c.args.queue.now c.args.taken.now.items;
  queue = behind_none c.args.at c.args.pick.now.n c.args.queue.now;
}

pub loop-turn-preserved : goal.loop-turn-preserved
loop-turn-preserved c = record {
  taken = picked_more c.args.at c.args.pick.now.qid c.args.pick.now.n c.loop-turn._turn c.loop-turn.queue _ _ c.loop-turn.taken.items _ _
      (omega (arith, c.loop-turn-test.true)) c.pick_one.ensures.taken c.pick_one.ensures.queue c.in_ok-push.ensures.items c.loop-turn.invariant.taken;
  queue = behind_more c.args.at c.args.pick.now.n c.loop-turn._turn c.loop-turn.queue _ _
      (omega (arith, c.loop-turn-test.true)) c.pick_one.ensures.queue c.loop-turn.invariant.queue;
}

pub returns-clause-taken : goal.returns-clause-taken
returns-clause-taken c =
    picked_all c.args.at c.args.pick.now.qid c.args.pick.now.n c.loop-turn._turn c.loop-turn.queue c.loop-turn.taken.items _
    (omega (arith, c.loop-turn-test.false)) c.loop-turn.invariant.taken

pub returns-clause-queue : goal.returns-clause-queue
returns-clause-queue c =
    behind_all c.args.at c.args.pick.now.n c.loop-turn._turn c.loop-turn.queue _ (omega (arith, c.loop-turn-test.false)) c.loop-turn.invariant.queue
