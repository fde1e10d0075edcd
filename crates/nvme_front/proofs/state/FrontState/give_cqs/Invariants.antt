-- The engine has the completion regions so far.
use Rattle.std.proofs.Common.{◌≡◌, false, [], length}
use Rattle.nvme_engine.specs.Standing.{StandsAt}
use Rattle.nvme_front.specs.inside.Pushing.{rules_at}
use Rattle.nvme_front.proofs.state.FrontState.give_cqs.Given as goal

abbrev pub invariant-loop-c : goal.invariant-loop-c
invariant-loop-c l = record {
  same : l.self ≡ record l.fn.self { engine = l.self.engine };
  stands : StandsAt (rules_at l.fn.self (length l.fn.self.sqs.items) l.c) false [] l.self.engine;
}
