use Rattle.std.proofs.Common.{rules, arith}
use Rattle.std.proofs.lemmas.List.{nil_from_length}
use Rattle.std.proofs.lemmas.List.Elements.{All-rest}
use Rattle.nvme_threads.proofs.Joins.{moved-one, all-moved}
use Rattle.nvme_threads.proofs.start.start_all.Goals as goal
use Rattle.nvme_threads.proofs.start.start_all.Goals.{in-None, in-Some+in_default-start_one}

pub loop-task-preserved : goal.loop-task-preserved
loop-task-preserved g c =
    let inv = c.loop-task.invariant in
    let next = c.in-Some.ensures.steps.0 in
    record {
      room = search rules;
      can = All-rest (λ t. g.T.Task.can_run t c.args.shared.now) c.in-Some.task _ _ next inv.can;
      started = moved-one _ _ _ _ _ _ _ _ c.push_reserved.ensures.items next c.in-Ok-start_one.ensures inv.started;
    }

pub returns : goal.returns
returns g c = λ whole. elim c.match-next.branch [
  | in-None w ↦ all-moved _ _ _ (nil_from_length _ (omega (arith, w.in-None.ensures.steps.0, c.loop-task.task-iterator.rest.ok))) c.loop-task.invariant.started
  | in-Some+in_default-start_one w ↦ let is = w.is_whole-is in grind arith
]
