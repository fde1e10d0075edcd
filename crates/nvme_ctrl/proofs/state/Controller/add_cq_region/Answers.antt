use Rattle.nvme_ctrl.proofs.AddCalls.{AddsCq, cq-call, cq-front, cq-answered, cq-unchanged}
use Rattle.nvme_ctrl.proofs.state.Controller.add_cq_region.Goals as goal

-- what the table answered
adds : (c : goal.After-add_cq_region) → AddsCq c.args.self.now.table c.add_cq_region.new.self c.args.address c.args.slots c.add_cq_region.result
adds c = let t = c.add_cq_region.ensures in record {
  anywhere = t.anywhere;
  refused = t.refused;
  added = t.added;
  number = t.number;
  stands = t.stands;
  unchanged = t.unchanged;
}

pub returns-clause-stands : goal.returns-clause-stands
returns-clause-stands c rules late notes pool s =
    cq-call rules late notes c.args.self.now pool s c.add_cq_region.new.self c.args.address c.args.slots c.add_cq_region.result (adds c)

pub returns-clause-front : goal.returns-clause-front
returns-clause-front c pool i = cq-front c.args.self.now pool c.add_cq_region.new.self c.args.address c.args.slots c.add_cq_region.result (adds c) i

pub returns-clause-added : goal.returns-clause-added
returns-clause-added c rules late notes pool s =
    (cq-answered rules late notes c.args.self.now pool s c.add_cq_region.new.self c.args.address c.args.slots c.add_cq_region.result (adds c)).0

pub returns-clause-refused : goal.returns-clause-refused
returns-clause-refused c rules late notes pool s =
    (cq-answered rules late notes c.args.self.now pool s c.add_cq_region.new.self c.args.address c.args.slots c.add_cq_region.result (adds c)).1

pub returns-clause-number : goal.returns-clause-number
returns-clause-number c rules late notes pool s =
    (cq-answered rules late notes c.args.self.now pool s c.add_cq_region.new.self c.args.address c.args.slots c.add_cq_region.result (adds c)).2

pub returns-clause-unchanged : goal.returns-clause-unchanged
returns-clause-unchanged c = cq-unchanged c.args.self.now c.add_cq_region.new.self c.args.address c.args.slots c.add_cq_region.result (adds c)
