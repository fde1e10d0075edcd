-- What the worked logs show.
use Rattle.std.proofs.Common.{◌≡◌, refl}
use Rattle.nvme_admin.specs.Accepted.{effects_of, queue_table}
use Rattle.nvme_log.specs.Examples.{one_deletion, two_slots}
use Rattle.nvme_ctrl_log.specs.Examples.{deletion_noted, two_passes}
use Rattle.nvme_audit.specs.Lawful.{IsFaultlessLog}
use Rattle.nvme_own_log.specs.Shown.{shown, start_of}
use Rattle.nvme_own_log.specs.Examples.{deletion_shown, passes_shown}

pub deletion_is : shown one_deletion deletion_noted ≡ deletion_shown
unfolding effects_of queue_table
deletion_is = refl

pub passes_are : shown two_slots two_passes ≡ passes_shown
unfolding effects_of queue_table
passes_are = refl

pub deletion_faultless : IsFaultlessLog (start_of one_deletion) deletion_shown
unfolding effects_of queue_table
deletion_faultless = (refl, (refl, (refl, (refl, (refl, (refl, (refl, (refl, (refl, (refl, (refl, (refl, (refl, (refl, tt))))))))))))))

pub passes_faultless : IsFaultlessLog (start_of two_slots) passes_shown
unfolding effects_of queue_table
passes_faultless = (refl, (refl, (refl, (refl, (refl, (refl, (refl, (refl, (refl, (refl, (refl, (refl, tt))))))))))))
