-- When a front is kept: its engine stands at its log, which accounts for its ends and its jobs, and it has room (profile).
use Rattle.std.specs.Prelude.{◌≡◌, ℕ, ◌<◌, ◌≤◌, true, false, List, [], ◌++◌, length, map, Some}
use Rattle.std.specs.List.{All, Contains}
use Rattle.nvme_entry.specs.declared.completion.Cqe.{Cqe}
use Rattle.nvme_admin.specs.declared.bounds.TheConstants.{MAX_REGIONS}
use Rattle.nvme_lane.specs.View.{PutView}
use Rattle.nvme_log.specs.Limits.{max_outstanding}
use Rattle.nvme_log.specs.Places.{fetched}
use Rattle.nvme_log.specs.Completions.{posted_to}
use Rattle.nvme_ctrl_log.specs.Notes.{Notes, logged}
use Rattle.nvme_ctrl_log.specs.Tags.{holder, is_out}
use Rattle.nvme_slots.specs.Pool.{AreApart}
use Rattle.nvme_engine.specs.Standing.{StandsAt, HasPool}
use Rattle.nvme_jobs.specs.declared.dispatched.Dispatched.{Dispatched}
use Rattle.nvme_jobs.specs.Hands.{in_hand}
use Rattle.nvme_jobs.specs.inside.Jobs.{JobsView}
use Rattle.nvme_jobs.specs.inside.Standing.{HoldsJobs, AreFreshJobs}
use Rattle.nvme_front.specs.declared.region.SqRegion.{SqRegion}
use Rattle.nvme_front.specs.declared.state.FrontState.{FrontState}
use Rattle.nvme_front.specs.View.{got_in, sent_in}
use Rattle.nvme_front.specs.inside.State.{rules_of, past_of, view_of}
use Rattle.nvme_front.specs.inside.Goes.{HasAdmin}

-- ---- the tags of the commands that have no result yet
-- a command's tag is out, and stands for its place
pub record IsTagged (notes : Notes) (d : Dispatched) : Type 0 where
  pub out : is_out notes d.tag ≡ true
  pub held : holder notes d.tag ≡ Some d.place

abbrev pub tags_in : JobsView → List ℕ
tags_in j = map (λ (d : Dispatched). d.tag) (in_hand j.hands)

-- the tags that are out are theirs, one each
pub record HoldsTags (notes : Notes) (j : JobsView) : Type 0 where
  pub each : All (IsTagged notes) (in_hand j.hands)
  pub apart : AreApart (tags_in j)
  pub all : (t : ℕ) → is_out notes t ≡ true → Contains (tags_in j) t

-- ---- the ends
-- as many commands were fetched as were got
abbrev pub IsCounted : SqRegion → Type 0
IsCounted sq = sq.fetched ≡ length sq.end.got

-- ---- a front whose engine began
pub record IsRunning (s : FrontState) : Type 0 where
  pub notes : Notes
  pub stands : StandsAt (rules_of s) s.late notes s.engine
  pub past_is : logged notes ≡ past_of s
  -- what was got is fetched, and what was put is posted
  pub got : (r : ℕ) → fetched (past_of s) r ≡ got_in (view_of s) r
  pub sent : (c : ℕ) → posted_to (past_of s) c ≡ sent_in (view_of s) c
  pub counted : All IsCounted s.sqs.items
  pub jobs : HoldsJobs s.config.spaces (past_of s) s.jobs
  pub tags : HoldsTags notes s.jobs

-- ---- a front that waits for its admin regions: nothing happened yet
pub record IsFreshSq (sq : SqRegion) : Type 0 where
  pub nothing_got : sq.end.got ≡ []
  pub none_fetched : sq.fetched ≡ 0

pub record IsFresh (s : FrontState) : Type 0 where
  pub log : s.log.items ≡ []
  pub in_time : s.late ≡ false
  pub sqs : All IsFreshSq s.sqs.items
  pub cqs : All (λ (p : PutView Cqe). p.sent ≡ []) s.cqs.items
  pub jobs : AreFreshJobs s.jobs
  -- the slots of the commands were made with the first submission region
  pub pool : 0 < length s.sqs.items → HasPool s.engine
  -- they are fewer than there may be tags
  pub few_slots : length s.engine.slots.items < 65536

-- ---- room
-- there is room for the jobs and for the commands of an engine
pub record HasRoom (s : FrontState) : Type 0 where
  pub jobs : s.jobs.room ≡ max_outstanding
  pub pool : HasPool s.engine

-- the addresses of the regions of both kinds
abbrev pub addresses_of : FrontState → List ℕ
addresses_of s = map (λ (sq : SqRegion). sq.end.address) s.sqs.items ++ map (λ (p : PutView Cqe). p.address) s.cqs.items

pub record IsRoomy (s : FrontState) : Type 0 where
  pub jobs : 0 < length s.sqs.items → s.jobs.room ≡ max_outstanding
  pub few_events : length s.log.items ≤ s.config.max_events
  -- no region was added late before the first event
  pub in_time : s.log.items ≡ [] → s.late ≡ false
  pub few_sqs : length s.sqs.items ≤ MAX_REGIONS
  pub few_cqs : length s.cqs.items ≤ MAX_REGIONS
  pub apart : AreApart (addresses_of s)

-- ---- all of it
pub record IsConsistent (s : FrontState) : Type 0 where
  pub fresh : (HasAdmin s → ⊥) → IsFresh s
  pub running : HasAdmin s → IsRunning s
  pub roomy : IsRoomy s
