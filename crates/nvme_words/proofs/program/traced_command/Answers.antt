use Rattle.std.proofs.Common.{rules}
use Rattle.std.proofs.lemmas.Result.{IfOk-weaker}
use Rattle.nvme_words.proofs.Building.{rule_added}
use Rattle.nvme_words.proofs.program.traced_command.Goals as goal

pub returns : goal.returns
returns c = IfOk-weaker c.arg.result _ _ (λ new added. rule_added _ new _ _ _ added c.in_ok-run_command.ensures c.output_arg.ensures) c.arg.ensures
