-- Which end of which ring an end is (profile).
use Rattle.std.specs.Prelude.{ℕ}
use Rattle.nvme_entry.specs.declared.submission.Sqe.{Sqe}
use Rattle.nvme_entry.specs.declared.completion.Cqe.{Cqe}
use Rattle.nvme_lane.specs.View.{GetView, PutView, RingName}

-- which end of which ring an end is
abbrev pub get_place : GetView Sqe → RingName × ℕ × ℕ
get_place g = (g.ring, g.address, g.slots)

abbrev pub put_place : PutView Cqe → RingName × ℕ × ℕ
put_place p = (p.ring, p.address, p.slots)
