use Rattle.std.proofs.Common.{◌≡◌, ℕ, [], refl, arith}
use Rattle.nvme_arbiter.specs.Limits.{queue_limit}
use Rattle.nvme_arbiter.specs.Queues.{queue_at}
use Rattle.nvme_arbiter.specs.declared.settings.Class.TheVariants.{Admin, Urgent, Low}
use Rattle.nvme_uses.specs.Served.{count_of}
use Rattle.nvme_uses.proofs.Boards.{none_waits, opened_waits}
use Rattle.nvme_uses.proofs.board.opened.Goals as goal

-- in no queue of the board a command waits
pub returns : goal.returns
returns c =
    let first = opened_waits c.new-board.result.queues 0 Admin (rw c.new-board.ensures.closed (none_waits queue_limit)) in
    let second = opened_waits c.open.new.self.queues 1 Urgent (rw c.open.ensures.opened first) in
    let third = opened_waits c.open-2.new.self.queues 2 Low (rw c.open-2.ensures.opened second) in
    let all : (q : ℕ) → count_of (queue_at c.open-3.new.self.queues q) ≡ 0 = rw c.open-3.ensures.opened third in
    record {
      all = λ q. omega (arith, all q);
      past = [];
      picks_are = refl;
      lawful = tt;
      stands = c.open-3.ensures.stands _ _ _ (c.open-2.ensures.stands _ _ _ (c.open.ensures.stands _ _ _ c.new-board.ensures.stands));
    }
