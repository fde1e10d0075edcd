use Rattle.nvme_report.proofs.Completions.{completions_are_posts}
use Rattle.nvme_report.proofs.reports.rows.add_commands.Goals as goal

pub add_command-requires : goal.add_command-requires
add_command-requires c =
    record { once = rw (completions_are_posts c.args.log.now c.args.region c.loop-index.index) (c.requires.posted_once c.args.region c.loop-index.index) }
