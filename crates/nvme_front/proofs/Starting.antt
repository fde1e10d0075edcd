-- The admin queues of a queue table that has regions.
use Rattle.std.proofs.Common.{◌≡◌, ◌<◌, List, [], ◌∷◌, length, Some, refl, arith}
use Rattle.nvme_admin.specs.QueueTable.{admin_sq, admin_cq}
use Rattle.nvme_admin.specs.Changes.{admin_queue as admin_entry}
use Rattle.nvme_admin.specs.declared.region.Region.{Region}

-- with a submission region there is the admin submission queue
pub admin_sq-some : (rs : List Region) → 0 < length rs → admin_sq rs ≡ Some admin_entry
admin_sq-some [] lt = absurd (omega arith)
admin_sq-some (r ∷ rs) lt = refl

-- with a completion region there is the admin completion queue
pub admin_cq-some : (rs : List Region) → 0 < length rs → admin_cq rs ≡ Some 0
admin_cq-some [] lt = absurd (omega arith)
admin_cq-some (r ∷ rs) lt = refl
