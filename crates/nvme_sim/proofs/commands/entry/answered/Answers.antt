-- What was written of the answer to one entry.
use Rattle.nvme_sim.specs.declared.commands.Answer.TheVariants as answer
use Rattle.nvme_sim.proofs.Inputs.{answer_came, answer_came_in_part}
use Rattle.nvme_sim.proofs.commands.entry.answered.Goals as goal

pub returns-in-Ok-clause-done : goal.returns-in-Ok-clause-done
returns-in-Ok-clause-done g c =
    answer_came g.W.Write.contents c.args.output.now c.put_line.new.output (g.R.Read.remaining c.args.input) c.args.blocks c.in-Ok.line c.put_line.result answer.Done
    c.in-Ok.ensures.answer c.put_line.ensures.done

pub returns-in-Ok-clause-failed : goal.returns-in-Ok-clause-failed
returns-in-Ok-clause-failed g c =
    answer_came_in_part g.W.Write.contents c.args.output.now c.put_line.new.output (g.R.Read.remaining c.args.input) c.args.blocks c.in-Ok.line c.put_line.result
    c.in-Ok.ensures.answer c.put_line.ensures.failed
