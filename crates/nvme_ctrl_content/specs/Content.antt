-- What a controller keeps, with the places of its commands, which it doesn't keep (profile).
use Rattle.std.specs.Prelude.{ℕ, Bool, ◌==◌, if◌then◌else◌, List, [], ◌∷◌, ◌++◌, Option, None}
use Rattle.nvme_entry.specs.Status.{StatusCode}
use Rattle.nvme_entry.specs.declared.submission.Sqe.{Sqe}
use Rattle.nvme_entry.specs.declared.completion.Cqe.{Cqe}
use Rattle.nvme_arbiter.specs.Board.{BoardView}
use Rattle.nvme_arbiter.specs.declared.settings.Class.{Class}
use Rattle.nvme_admin.specs.QueueTable.{QueueTable}
use Rattle.nvme_log.specs.declared.place.Place.{Place}

-- a fetched command that waits to be picked: its index among the fetches of its region, and its entry
pub record Candidate : Type 0 where
  pub index : ℕ
  pub entry : Sqe

-- a picked or aborted command whose completion waits to be posted. One that was aborted with its queue takes no outstanding place. An admin command
-- that was passed on has the device's answer
pub record Ready : Type 0 where
  pub place : Place
  pub sqid : ℕ
  pub cid : ℕ
  pub with_queue : Bool
  pub passed : Bool
  pub status : StatusCode
  pub dw0 : ℕ

-- a deletion that began and isn't finished: its command, and the queue that it deletes with its region
pub record PendingDelete : Type 0 where
  pub place : Place
  pub cid : ℕ
  pub qid : ℕ
  pub region : ℕ

-- the queue that a submission region was opened for, and the completion region that it posts to
pub record Attachment : Type 0 where
  pub qid : ℕ
  pub cq_region : ℕ

-- a submission region: what was fetched, the candidates, the number of fetches, the number of picked and aborted places with no post, the queue
-- that it was opened for, and its slots
pub record SqContent : Type 0 where
  pub got : List Sqe
  pub window : List Candidate
  pub fetched : ℕ
  pub unposted : ℕ
  pub queue : Option Attachment
  pub slots : ℕ

-- a completion region: what was posted, the number of posts, the ready completions, and its slots
pub record CqContent : Type 0 where
  pub sent : List Cqe
  pub posted : ℕ
  pub ready : List Ready
  pub slots : ℕ

abbrev pub no_sq : SqContent
no_sq = record { got = []; window = []; fetched = 0; unposted = 0; queue = None; slots = 0 }

abbrev pub no_cq : CqContent
no_cq = record { sent = []; posted = 0; ready = []; slots = 0 }

-- all of it
pub record Content : Type 0 where
  pub sq : ℕ → SqContent
  pub cq : ℕ → CqContent
  -- the number of regions of each kind
  pub nsq : ℕ
  pub ncq : ℕ
  pub board : BoardView
  pub table : QueueTable
  pub outstanding : ℕ
  -- the deletion of the queue of each region
  pub deletion : ℕ → Option PendingDelete
  -- the picked places of I/O queues that have no answer
  pub hand : List Place
  -- by submission region: whether its queue is held, and the class that was set of it
  pub held : ℕ → Bool
  pub classed : ℕ → Option Class
  -- the regions of the queues whose state is kept, by identifier, and the identifiers by region: of submission queues that are open or closing, and of
  -- open completion queues
  pub sq_life : ℕ → Option ℕ
  pub sq_id : ℕ → Option ℕ
  pub cq_life : ℕ → Option ℕ
  pub cq_id : ℕ → Option ℕ

-- another region in the place of one
abbrev pub put_sq : (ℕ → SqContent) → ℕ → SqContent → ℕ → SqContent
put_sq sq r s x = if x == r then s else sq x

abbrev pub put_cq : (ℕ → CqContent) → ℕ → CqContent → ℕ → CqContent
put_cq cq c s x = if x == c then s else cq x

-- whether the queue of a region is held in the place of what was, and so the class that was set of it
abbrev pub put_held : (ℕ → Bool) → ℕ → Bool → ℕ → Bool
put_held held r on x = if x == r then on else held x

abbrev pub put_class : (ℕ → Option Class) → ℕ → Option Class → ℕ → Option Class
put_class classed r class x = if x == r then class else classed x

-- another deletion in the place of that of a region
abbrev pub put_deletion : (ℕ → Option PendingDelete) → ℕ → Option PendingDelete → ℕ → Option PendingDelete
put_deletion deletion r d x = if x == r then d else deletion x

-- another region, or identifier, in the place of one
abbrev pub put_life : (ℕ → Option ℕ) → ℕ → Option ℕ → ℕ → Option ℕ
put_life lives q life x = if x == q then life else lives x

abbrev pub with_sq : Content → ℕ → SqContent → Content
with_sq k r s = record k { sq = put_sq k.sq r s }

abbrev pub with_cq : Content → ℕ → CqContent → Content
with_cq k c s = record k { cq = put_cq k.cq c s }

-- a ready completion more in a completion region
abbrev pub with_ready : Content → ℕ → Ready → Content
with_ready k c t = with_cq k c (record (k.cq c) { ready = (k.cq c).ready ++ t ∷ [] })
