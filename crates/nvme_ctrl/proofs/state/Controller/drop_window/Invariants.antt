-- The oldest candidates were dropped, and the others are to be dropped.
use Rattle.std.proofs.Common.{◌≡◌, ℕ, drop, length}
use Rattle.nvme_log.specs.Rules.{FrontRules}
use Rattle.nvme_ctrl_log.specs.Notes.{Notes}
use Rattle.nvme_slots.specs.Generations.{SameGenerations}
use Rattle.nvme_ctrl_content.specs.Content.{Content}
use Rattle.nvme_ctrl.specs.kept.Kept.{Items}
use Rattle.nvme_ctrl.specs.inside.Loose.{IsLoose, Keeps}
use Rattle.nvme_ctrl_content.specs.Carrying.{IsDroppable}
use Rattle.nvme_ctrl.specs.kept.State.{sq_at}
use Rattle.nvme_ctrl.proofs.Dropping.{IsDropping}
use Rattle.nvme_ctrl.proofs.state.Controller.drop_window.Given as goal

abbrev pub invariant-loop : goal.invariant-loop
invariant-loop l = record {
  end : l.end ≡ (sq_at l.fn.self.sqs l.qid).window.len;
  left : l.self ≡ record l.fn.self { sqs = l.self.sqs; cqs = l.self.cqs; readied = l.self.readied };
  size : length l.slots ≡ length l.fn.slots;
  generations : SameGenerations l.fn.slots l.slots;
  dropping : (rules : FrontRules) (notes : Notes) (k : Content) (g : Items) (region c y : ℕ) → Keeps rules notes l.fn.self l.fn.slots k g → l.fn.self.picked ≡ 0 → IsDroppable notes k l.qid region c → IsLoose l.fn.slots g y
      → IsDropping rules notes k l.qid region c l.fn.slots y l.self l.slots (drop l.counter (g.windows region));
}
