use Rattle.std.proofs.Common.{subst}
use mathlib.Core.List.{IsPrefix}
use Rattle.nvme_front.specs.Ends.{get_place}
use Rattle.nvme_front.specs.Hosts.{feeder_place, submitted_at}
use Rattle.nvme_front.proofs.Hosted.{seen_length}
use Rattle.nvme_front.proofs.Rested.{got_first, got_same}
use Rattle.nvme_front.proofs.last_look.drop_beside.Goals as goal

pub returns : goal.returns
returns c = λ r.
    let v = c.args.front in
    let f = c.args.feeders.items in
    let same = seen_length feeder_place get_place f v.gets c.requires in
    subst (λ z. IsPrefix z (submitted_at f r)) (got_same v _ f _ _ c.look.ensures same r) (got_first v _ f _ _ c.look.ensures same r)
