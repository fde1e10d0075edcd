use Rattle.nvme_lane.proofs.Prefixes.{IsPrefix-trans}
use Rattle.nvme_lane.proofs.contents.beside.Goals as goal

pub returns-clause-known : goal.returns-clause-known
returns-clause-known g c =
    rw (← c.get.view_is) (IsPrefix-trans _ _ _ c.slots_beside-resting.ensures.consumer.2 c.slots_beside-resting-2.ensures.looked.2)
