-- The loaded log: the log of a front whose hosts had submitted their whole scripts before its first turn, posts left out (profile).
use Rattle.std.specs.Prelude.{◌≡◌, ℕ, ◌==◌, ◌&&◌, ◌||◌, nat_le, Bool, true, false, not, List, [], ◌∷◌, length, filter, Option, Some, None, unwrap_or, MatchOption}
use Rattle.std.specs.List.{list_all}
use mathlib.Core.List.{IsPrefix}
use Rattle.nvme_entry.specs.declared.submission.Sqe.{Sqe}
use Rattle.nvme_arbiter.specs.Limits.{queue_limit}
use Rattle.nvme_arbiter.specs.Lawful.{IsLawfulRun}
use Rattle.nvme_log.specs.declared.event.Event.{Event}
use Rattle.nvme_log.specs.declared.event.Event.TheVariants.{Fetch, Pick, Abort, Post, ClosedSq}
use Rattle.nvme_log.specs.Rules.{Past, FrontRules, Each, upto, window_at}
use Rattle.nvme_log.specs.Queues.{Queue, Deletion, open_sq, pending, is_closed_region, qid_of_region}
use Rattle.nvme_log.specs.Places.{fetched, waiting}
use Rattle.nvme_log.specs.Histories.{arbitration_of}
use Rattle.nvme_log.specs.Effects.{made_last, effects_since, EffectsAtOnce}
use Rattle.nvme_log.specs.Account.{IndexCounts, ServedWhileOpen, Observed}

-- an event is a post
abbrev pub is_post : Event → Bool
is_post (Post c r i cqe) = true
is_post e = false

-- a log without its posts
abbrev pub without_posts : Past → Past
without_posts past = filter (λ (e : Event). not (is_post e)) past

-- posts are left out
abbrev pub IsNoPost : Past → Event → Type 0
IsNoPost past (Post c r i cqe) = ⊥
IsNoPost past e = Unit {0}

-- the script of an open queue is wholly fetched, or its window is full
abbrev pub is_filled : FrontRules → (ℕ → List Sqe) → Past → Option Queue → Bool
is_filled rules scripts past None = true
is_filled rules scripts past (Some queue) =
    nat_le (length (scripts queue.region)) (length (fetched past queue.region))
    || nat_le (window_at rules queue.region) (length (waiting past queue.region))

-- each open queue is filled
abbrev pub are_filled : FrontRules → (ℕ → List Sqe) → Past → Bool
are_filled rules scripts past = list_all (λ (q : ℕ). is_filled rules scripts past (open_sq past q)) (upto queue_limit)

-- each open queue is filled just before a pick
abbrev pub FilledBefore : FrontRules → (ℕ → List Sqe) → Past → Event → Type 0
FilledBefore rules scripts past (Pick seen pick) = are_filled rules scripts past ≡ true
FilledBefore rules scripts past e = Unit {0}

-- what comes after a fetch from a region: a fetch of the same queue or of one with a higher identifier, or a pick
abbrev pub may_follow_fetch : Past → ℕ → Event → Bool
may_follow_fetch past r (Fetch region index entry) = nat_le (unwrap_or (qid_of_region past r) 0) (unwrap_or (qid_of_region past region) 0)
may_follow_fetch past r (Pick seen pick) = true
may_follow_fetch past r e = false

-- fetches between two picks go by ascending identifier, after all other events there
abbrev pub FetchesLast : Past → Event → Type 0
FetchesLast [] e = Unit {0}
FetchesLast (Fetch r i entry ∷ past) e = may_follow_fetch past r e ≡ true
FetchesLast (other ∷ past) e = Unit {0}

-- an event is an abort
abbrev pub is_abort : Event → Bool
is_abort (Abort r i) = true
is_abort e = false

-- an event is the end of a deletion
abbrev pub is_closed_of : Deletion → Event → Bool
is_closed_of deletion (ClosedSq qid region) = qid == deletion.qid && region == deletion.region
is_closed_of deletion e = false

-- what may come while a deletion is pending, an abort or its end, and while none is, anything but an end
abbrev pub ends_deletion : Option Deletion → Event → Bool
ends_deletion None (ClosedSq qid region) = false
ends_deletion None e = true
ends_deletion (Some deletion) e = is_abort e || is_closed_of deletion e

-- a deletion ends at once, after its aborts
abbrev pub ClosedAtOnce : Past → Event → Type 0
ClosedAtOnce past e = ends_deletion (pending past) e ≡ true

-- nothing more happens to a region whose queue's deletion was finished
abbrev pub NothingAfterClosed : Past → Event → Type 0
NothingAfterClosed past (Fetch r i entry) = is_closed_region past r ≡ false
NothingAfterClosed past (Abort r i) = is_closed_region past r ≡ false
NothingAfterClosed past e = Unit {0}

-- no candidate is left
abbrev pub NoneWaits : Past → Type 0
NoneWaits past = (q : ℕ) → MatchOption (open_sq past q) (Unit {0}) (λ queue. waiting past queue.region ≡ [])

-- what a loaded log says at every moment
pub record LoadedSoFar (rules : FrontRules) (scripts : ℕ → List Sqe) (past : Past) : Type 0 where
  pub no_post : Each IsNoPost past
  pub fetched_in_order : (r : ℕ) → IsPrefix (fetched past r) (scripts r)
  pub indexes_count : Each IndexCounts past
  pub served_while_open : Each (ServedWhileOpen rules) past
  pub observed : Each Observed past
  pub effects_at_once : Each (EffectsAtOnce rules) past
  pub lawful : IsLawfulRun rules.mechanism rules.start.settings (arbitration_of past)
  -- each open queue is filled before each pick
  pub filled_before : Each (FilledBefore rules scripts) past
  pub fetches_last : Each FetchesLast past
  -- each deletion is finished at once
  pub closed_at_once : Each ClosedAtOnce past
  pub nothing_after_closed : Each NothingAfterClosed past

-- and at its end, where nothing is left to do
pub record LoadedAtEnd (rules : FrontRules) (scripts : ℕ → List Sqe) (past : Past) : Type 0 where
  pub effects_whole : effects_since past ≡ made_last rules past
  -- each open queue is filled
  pub filled : are_filled rules scripts past ≡ true
  pub none_pending : pending past ≡ None
  pub none_waits : NoneWaits past

-- the log, without posts, of a workload with these scripts
pub record IsLoadedLog (rules : FrontRules) (scripts : ℕ → List Sqe) (past : Past) : Type 0 where
  pub so_far : LoadedSoFar rules scripts past
  pub at_end : LoadedAtEnd rules scripts past
