use Rattle.std.proofs.Common.{◌≡◌, ◌≤◌, ◌*◌, take, sum_by}
use Rattle.nvme_sim.specs.RunAnswers.{taken_by}
use Rattle.nvme_sim.proofs.run_answers.commands_of.Given as goal

-- what the picks so far took, at most the greatest number each
abbrev pub invariant-loop-pick : goal.invariant-loop-pick
invariant-loop-pick l = (l.commands ≡ sum_by (taken_by l.queue) (take l.pick-index l.picks)) × (l.commands ≤ l.pick-index * 65535)
