use Rattle.std.proofs.Common.{rules}
use Rattle.nvme_short_form.proofs.Runs.{copies_of_none}
use Rattle.nvme_short_form.proofs.script.push_repeated.Goals as goal

pub returns-then-is_empty : goal.returns-then-is_empty
returns-then-is_empty c = copies_of_none c.args.times c.args.items.now c.args.script.now.items (search rules)
