use Rattle.std.proofs.Common.{◌≡◌, false, []}
use Rattle.nvme_workload.specs.Regions.{has_address}
use Rattle.nvme_workload.proofs.SoundLemmas.{submissions_push}
use Rattle.nvme_workload.proofs.regions.push_submission.Goals as goal

pub returns-clause-sound : goal.returns-clause-sound
returns-clause-sound c = λ h.
    let before = c.args.regions.now.items in
    let region = c.in_ok-region.region in
    let told = c.in_ok-region.ensures in
    let fresh : has_address before [] region.address ≡ false = rw (← c.deref.ensures.value) told.fresh in
    rw c.in_ok-push.ensures.items (submissions_push before region c.args.commands h c.requires.all fresh told.slots told.numbered told.fits)
