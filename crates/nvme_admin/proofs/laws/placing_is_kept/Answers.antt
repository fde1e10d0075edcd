use Rattle.std.proofs.Common.{refl}
use Rattle.nvme_admin.specs.Checks.{some_below}
use Rattle.nvme_admin.specs.Accepted.{effects_of, queue_table, status_of, dw0_of, verdict_of}
use Rattle.nvme_admin.proofs.laws.placing_is_kept.Goals as goal

pub returns : goal.returns
unfolding some_below effects_of queue_table status_of dw0_of verdict_of
returns c = record { none = refl; said = refl; kept = refl; latest = refl; late = refl; late_on_regions = refl; late_changes_nothing = refl; no_page_refuses = refl; no_page_accepts = refl; vector = refl; interrupts = refl; no_interrupts = refl }
