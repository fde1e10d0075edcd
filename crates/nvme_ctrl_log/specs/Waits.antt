-- The commands that wait in a queue, by their order. (Base Specification, Submission Queue Entry; cookies: profile)
use Rattle.std.specs.Prelude.{◌≡◌, ℕ, Some, slice_get}
use Rattle.nvme_entry.specs.declared.submission.Sqe.{Sqe}
use Rattle.nvme_log.specs.Queues.{Queue, open_sq}
use Rattle.nvme_log.specs.Places.{entry_at, waiting}
use Rattle.nvme_ctrl_log.specs.Notes.{Notes, logged}
use Rattle.nvme_ctrl_log.specs.Tags.{cookie_of}

-- the command that waits as the nth in the open queue of an identifier, the oldest as the 0th: its entry, and what the caller keeps with it
pub record WaitsAt (notes : Notes) (qid n : ℕ) (entry : Sqe) (cookie : ℕ) : Type 0 where
  pub queue : Queue
  pub is_open : open_sq (logged notes) qid ≡ Some queue
  pub index : ℕ
  pub at : slice_get (waiting (logged notes) queue.region) n ≡ Some index
  pub entry_is : entry_at (logged notes) queue.region index ≡ Some entry
  pub cookie_is : cookie_of notes queue.region index ≡ Some cookie
