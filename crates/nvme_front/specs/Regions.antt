-- The regions of a front, as the steps of a table history (profile).
use Rattle.std.specs.Prelude.{List, map, reverse}
use Rattle.nvme_entry.specs.declared.submission.Sqe.{Sqe}
use Rattle.nvme_entry.specs.declared.completion.Cqe.{Cqe}
use Rattle.nvme_lane.specs.View.{GetView, PutView}
use Rattle.nvme_admin.specs.History.{TableHistory, RegionAdded, Submission, Completion}

-- the regions, as the steps of a table history that adds the submission regions first
abbrev pub sq_steps : List (GetView Sqe) → TableHistory
sq_steps gets = reverse (map (λ (g : GetView Sqe). RegionAdded Submission g.address g.slots) gets)

abbrev pub cq_steps : List (PutView Cqe) → TableHistory
cq_steps puts = reverse (map (λ (p : PutView Cqe). RegionAdded Completion p.address p.slots) puts)
