-- The commands so far are logged as aborted, and the room stays.
use Rattle.std.proofs.Common.{◌≡◌, ◌++◌, ℕ, map, take}
use Rattle.std.specs.Prelude.{vec_capacity}
use Rattle.nvme_log.specs.declared.event.Event.TheVariants.{Abort}
use Rattle.nvme_engine.proofs.admin.log_dropped.Given as goal

abbrev pub invariant-loop-index : goal.invariant-loop-index
invariant-loop-index l = record {
  items : l.log.items ≡ l.fn.log.items ++ map (λ (i : ℕ). Abort l.region i) (take l.index-index l.indexes);
  room : vec_capacity l.log ≡ vec_capacity l.fn.log;
}
