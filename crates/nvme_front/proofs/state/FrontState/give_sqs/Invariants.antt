-- The engine has the submission regions so far.
use Rattle.std.proofs.Common.{◌≡◌, false, []}
use Rattle.nvme_engine.specs.Standing.{StandsAt}
use Rattle.nvme_front.specs.inside.Pushing.{rules_at}
use Rattle.nvme_front.proofs.state.FrontState.give_sqs.Given as goal

abbrev pub invariant-loop-r : goal.invariant-loop-r
invariant-loop-r l = record {
  same : l.self ≡ record l.fn.self { engine = l.self.engine };
  stands : StandsAt (rules_at l.fn.self l.r 1) false [] l.self.engine;
}
