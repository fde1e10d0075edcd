use Rattle.std.proofs.Common.{◌≡◌, if◌then◌else◌, refl, arith}
use Rattle.nvme_capi.proofs.FlaggedEntries.{flagged_entry}
use Rattle.nvme_capi.proofs.ctrl.status_flags.flagged.Goals.{then-flags, else-flags, then-flags-2, else-flags-2}
use Rattle.nvme_capi.proofs.ctrl.status_flags.flagged.Goals as goal

pub returns : goal.returns
returns c =
    let more_is : c.if-flags.more ≡ (if c.args.flags.more then 64 else 0) = elim c.if-flags.branch [
      | then-flags w ↦ rw w.if-flags.true w.more-is
      | else-flags w ↦ rw w.if-flags.false w.more-is
    ] in
    let do_not_retry_is : c.if-flags-2.do_not_retry ≡ (if c.args.flags.do_not_retry then 128 else 0) = elim c.if-flags-2.branch [
      | then-flags-2 w ↦ rw w.if-flags-2.true w.do_not_retry-is
      | else-flags-2 w ↦ rw w.if-flags-2.false w.do_not_retry-is
    ] in
    λ cqe. flagged_entry c.args.plain _ _ c.args.flags cqe c.element_fits.fits c.element_fits2.fits c.element_fits3.fits c.if-flags-2.element_fits.fits refl (omega (arith, more_is, do_not_retry_is))
