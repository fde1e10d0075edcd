use Rattle.std.proofs.Common.{◌≡◌, ℕ, List, [], Some, Ok}
use Rattle.nvme_lines.specs.Lines.{TakesTold}
use Rattle.nvme_trace.specs.Format.{head_by}
use Rattle.nvme_trace.specs.declared.records.Head.{Head}
use Rattle.nvme_stats.proofs.ShowLemmas.{IsFollowed, ShownUpTo}
use Rattle.nvme_stats.proofs.watch.show.Given as goal

-- the watcher stands after the lines so far
abbrev pub invariant-loop : goal.invariant-loop
invariant-loop g l = record {
  shown : (text : List ℕ) (head : Head) → TakesTold (λ line. head_by line ≡ Ok head) 0 (Some text) l.fn.trace.number l.fn.trace.rest → g.W.Watch.stands head [] l.fn.watcher → ShownUpTo text l.trace.rest l.trace.number head (IsFollowed l.fn.mechanism l.fn.selection l.chooser.next (λ past. g.W.Watch.stands head past l.watcher));
  mechanism : l.chooser.mechanism ≡ l.fn.mechanism;
  selection : l.chooser.selection ≡ l.fn.selection;
}
