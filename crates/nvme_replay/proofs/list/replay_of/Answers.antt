use Rattle.nvme_replay.specs.declared.requests.Lined.{Lined}
use Rattle.nvme_replay.specs.Lists.{asked}
use Rattle.nvme_replay.proofs.Lists.{asked_more}
use Rattle.nvme_replay.proofs.list.replay_of.Goals as goal

pub loop-it-preserved : goal.loop-it-preserved
loop-it-preserved c =
    asked_more (λ (it : Lined). asked c.args.wanted.now it.request) c.args.lined.now _ _ c.loop-it.it-index _ _ c.loop-it-test.true
    c.in-Ok.ensures.ok c.in_ok-push.ensures.items c.loop-it.invariant
