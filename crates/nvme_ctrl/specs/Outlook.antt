-- What a caller that keeps a log itself asks of it. (profile)
use Rattle.std.specs.Prelude.{◌≡◌, ℕ, true, []}
use Rattle.std.specs.List.{list_all}
use Rattle.nvme_log.specs.Rules.{Past}
use Rattle.nvme_log.specs.Places.{places, waiting}
use Rattle.nvme_log.specs.Completions.{is_posted}
use Rattle.nvme_ctrl_log.specs.Laws.{NoneDeleting}

-- nothing is left to do: no command waits, each fetched command has its completion posted, and no queue is being deleted (profile)
pub record IsAllDone (past : Past) : Type 0 where
  pub none_waits : (r : ℕ) → waiting past r ≡ []
  pub all_posted : (r : ℕ) → list_all (λ (i : ℕ). is_posted past r i) (places past r) ≡ true
  pub none_deleting : NoneDeleting past
