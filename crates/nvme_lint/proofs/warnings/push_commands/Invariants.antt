-- The table stands at a history from which what is left of the script leads to the same warnings and the same history.
use Rattle.nvme_admin.specs.History.{Start, TableHistory}
use Rattle.nvme_admin.specs.Standing.{StandsAt}
use Rattle.nvme_lint.specs.Warnings.{told_of}
use Rattle.nvme_lint.proofs.Playing.{Plays}
use Rattle.nvme_lint.proofs.warnings.push_commands.Given as goal

abbrev pub invariant-loop-command : goal.invariant-loop-command
invariant-loop-command l = record {
  stands : (start : Start) × (h : TableHistory) × StandsAt start l.table h;
  plays : (start : Start) (h : TableHistory) → StandsAt start l.fn.table h
      → Plays (told_of l.sqs l.cqs) start h l.fn.warnings.items l.script l.command l.table l.warnings.items;
}
