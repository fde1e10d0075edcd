use Rattle.nvme_ctrl.proofs.AddCalls.{AddsSq, sq-call, sq-front, sq-answered, sq-unchanged}
use Rattle.nvme_ctrl.proofs.state.Controller.add_sq_region.Goals as goal

-- what the table answered
adds : (c : goal.After-add_sq_region) → AddsSq c.args.self.now.table c.add_sq_region.new.self c.args.address c.args.slots c.add_sq_region.result
adds c = let t = c.add_sq_region.ensures in record {
  anywhere = t.anywhere;
  refused = t.refused;
  added = t.added;
  number = t.number;
  stands = t.stands;
  unchanged = t.unchanged;
}

pub returns-clause-stands : goal.returns-clause-stands
returns-clause-stands c rules late notes pool s =
    sq-call rules late notes c.args.self.now pool s c.add_sq_region.new.self c.args.address c.args.slots c.add_sq_region.result (adds c)

pub returns-clause-front : goal.returns-clause-front
returns-clause-front c pool i = sq-front c.args.self.now pool c.add_sq_region.new.self c.args.address c.args.slots c.add_sq_region.result (adds c) i

pub returns-clause-added : goal.returns-clause-added
returns-clause-added c rules late notes pool s =
    (sq-answered rules late notes c.args.self.now pool s c.add_sq_region.new.self c.args.address c.args.slots c.add_sq_region.result (adds c)).0

pub returns-clause-refused : goal.returns-clause-refused
returns-clause-refused c rules late notes pool s =
    (sq-answered rules late notes c.args.self.now pool s c.add_sq_region.new.self c.args.address c.args.slots c.add_sq_region.result (adds c)).1

pub returns-clause-number : goal.returns-clause-number
returns-clause-number c rules late notes pool s =
    (sq-answered rules late notes c.args.self.now pool s c.add_sq_region.new.self c.args.address c.args.slots c.add_sq_region.result (adds c)).2

pub returns-clause-unchanged : goal.returns-clause-unchanged
returns-clause-unchanged c = sq-unchanged c.args.self.now c.add_sq_region.new.self c.args.address c.args.slots c.add_sq_region.result (adds c)
