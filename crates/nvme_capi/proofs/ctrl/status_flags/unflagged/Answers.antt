use Rattle.std.proofs.Common.{rules, ◌<◌, slice_index, refl}
use Rattle.nvme_capi.proofs.FlaggedEntries.{unflagged_entry}
use Rattle.nvme_capi.proofs.ctrl.status_flags.unflagged.Goals as goal

pub returns-clause-layout : goal.returns-clause-layout
returns-clause-layout c =
    let f12 : slice_index c.args.bytes 12 < 256 = search rules in
    let f13 : slice_index c.args.bytes 13 < 256 = search rules in
    let f14 : slice_index c.args.bytes 14 < 256 = search rules in
    let f15 : slice_index c.args.bytes 15 < 256 = search rules in
    λ cqe h. unflagged_entry c.args.bytes _ f12 f13 f14 f15 h.whole refl cqe h
