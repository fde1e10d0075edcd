-- Which commands are the device's, and how deep queues are, is nothing that a log tells.
use Rattle.std.proofs.Common.{ℕ, Bool, List}
use Rattle.nvme_log.specs.Rules.{FrontRules}
use Rattle.nvme_ctrl_log.specs.Notes.{Notes}
use Rattle.nvme_ctrl.specs.Standing.{IsController}
use Rattle.nvme_ctrl.specs.declared.own.OwnCommands.{OwnCommands}
use Rattle.nvme_slots.specs.declared.slot.Slot.{Slot}
use Rattle.nvme_ctrl.specs.declared.state.Controller.{Controller}
use Rattle.nvme_ctrl.specs.kept.Kept.{StandsAt}

-- a controller stands where it stood, whatever is the device's, and whatever the depths are
pub owned : (rules : FrontRules) (late : Bool) (notes : Notes) (c : Controller) (slots : List Slot) (own : OwnCommands) (depths : List ℕ) → StandsAt rules late notes c slots
    → StandsAt rules late notes (record c { own = own; depths = depths }) slots
owned rules late notes c slots own depths s = record {
  content = s.content;
  items = s.items;
  holds = s.holds;
  numbers = (let n = s.numbers in record {
    tells = n.tells;
    board_is = n.board_is;
    is_arbiter = n.is_arbiter;
    outstanding_is = n.outstanding_is;
    sqs = record {
      ids = n.sqs.ids;
      each = λ q r is. (n.sqs.each q r is);
      few = n.sqs.few;
      none = n.sqs.none;
      size = n.sqs.size;
      rung = n.sqs.rung;
    };
    cqs = n.cqs;
  });
  has = (let m = s.has in record { windows = m.windows; outs = m.outs; readies = m.readies; deletions = m.deletions; free = m.free; few = m.few });
  doorbells = (let d = s.doorbells in record { sqs = d.sqs; cqs = d.cqs });
  tags = s.tags;
  shown = record { held = s.shown.held; classed = s.shown.classed };
  ordered = s.ordered;
  regions = record { sqs = s.regions.sqs; cqs = s.regions.cqs };
  account = s.account;
}

pub owned_front : (c : Controller) (slots : List Slot) (own : OwnCommands) (depths : List ℕ) → IsController c slots → IsController (record c { own = own; depths = depths }) slots
owned_front c slots own depths is = record { rules = is.rules; late = is.late; notes = is.notes; stands = owned is.rules is.late is.notes c slots own depths is.stands }
