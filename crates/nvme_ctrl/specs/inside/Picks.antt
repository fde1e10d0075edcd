-- When a controller can make its next pick (profile).
use Rattle.std.specs.Prelude.{◌≡◌, ◌≤◌, List, IsSomeAnd, IsTrue}
use Rattle.nvme_entry.specs.declared.submission.Sqe.{Sqe}
use Rattle.nvme_arbiter.specs.Layout.{board_of, is_arbiter}
use Rattle.nvme_arbiter.specs.Lawful.{IsCutOf}
use Rattle.nvme_arbiter.specs.Queues.{seen_of}
use Rattle.nvme_arbiter.specs.Standing.{pick_of}
use Rattle.nvme_arbiter.specs.declared.pick.Pick.{Pick}
use Rattle.nvme_ctrl.specs.Standing.{IsController}
use Rattle.nvme_slots.specs.declared.slot.Slot.{Slot}
use Rattle.nvme_ctrl.specs.declared.state.Controller.{Controller}
use Rattle.nvme_slots.specs.Pool.{slot_at}
use Rattle.nvme_ctrl.specs.kept.State.{sq_at}

-- the entry of the first command of the admin queue's window
abbrev pub oldest_entry : Controller → List Slot → Sqe
oldest_entry c slots = (slot_at slots (sq_at c.sqs 0).window.first).entry

pub record CanPickNow (c : Controller) (slots : List Slot) (pick : Pick) : Type 0 where
  pub arbiter : IsTrue (is_arbiter c.board.arbiter)
  pub none_picked : c.picked ≡ 0
  pub next : IsSomeAnd (pick_of (board_of c.board).kept (seen_of (board_of c.board).queues)) (λ whole. IsCutOf whole pick)
  pub some : IsController c slots → 1 ≤ pick.n
