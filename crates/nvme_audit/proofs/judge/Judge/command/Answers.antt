use Rattle.std.proofs.Common.{◌∙◌}
use Rattle.nvme_audit.proofs.judge.Judge.command.Goals as goal

pub returns : goal.returns
returns c = λ start past stands. c.get.ensures ∙ stands.commands_are c.args.sq c.args.cid
