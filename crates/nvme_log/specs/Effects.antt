-- What picked admin commands make of the queues.
-- (Base Specification, Create and Delete I/O Submission and Completion Queue, Abort, Arbitration feature)
use Rattle.std.specs.Prelude.{◌≡◌, ℕ, ◌==◌, Bool, true, false, if◌then◌else◌, List, [], ◌∷◌, ◌++◌, filter, map, take, Option, Some, None, MatchBool}
use mathlib.Core.List.{IsPrefix}
use Rattle.nvme_entry.specs.declared.submission.Sqe.{Sqe}
use Rattle.nvme_admin.specs.Accepted.{verdict_of}
use Rattle.nvme_admin.specs.declared.verdict.Verdict.{Verdict}
use Rattle.nvme_admin.specs.declared.verdict.Verdict.TheVariants.{Done, BeginDelete, CloseCq}
use Rattle.nvme_log.specs.declared.event.Event.{Event}
use Rattle.nvme_log.specs.declared.event.Event.TheVariants.{Fetch, Pick, SetArbitration, OpenSq, OpenCq, Closing, Abort, Post, ClosedSq, ClosedCq}
use Rattle.nvme_log.specs.Rules.{Past, FrontRules}
use Rattle.nvme_log.specs.Queues.{Queue, open_sq, open_cq}
use Rattle.nvme_log.specs.Places.{waiting, entry_at}
use Rattle.nvme_log.specs.Histories.{table_history, admin_entry}
use Rattle.nvme_admin.specs.declared.verdict.Verdict.TheVariants as verdict

-- the events that only a picked admin command makes
abbrev pub is_effect : Event → Bool
is_effect (SetArbitration settings) = true
is_effect (OpenSq qid region cqid class) = true
is_effect (OpenCq qid region) = true
is_effect (Closing qid region) = true
is_effect (Abort region index) = true
is_effect (ClosedCq qid region) = true
is_effect (Fetch region index entry) = false
is_effect (Pick seen pick) = false
is_effect (Post cq_region region index cqe) = false
is_effect (ClosedSq qid region) = false

-- the deletion of a submission queue begins, and each of its candidates is aborted, the oldest first
abbrev pub closing_of : Past → ℕ → Option Queue → List Event
closing_of past qid None = []
closing_of past qid (Some queue) = Closing qid queue.region ∷ map (λ (i : ℕ). Abort queue.region i) (waiting past queue.region)

-- a completion queue is closed
abbrev pub closed_cq_of : ℕ → Option ℕ → List Event
closed_cq_of qid None = []
closed_cq_of qid (Some region) = ClosedCq qid region ∷ []

-- an entry has a command identifier
abbrev pub has_cid : ℕ → Option Sqe → Bool
has_cid cid None = false
has_cid cid (Some entry) = entry.cid == cid

-- the candidates of a region with a command identifier, the oldest first
abbrev pub named : Past → ℕ → ℕ → List ℕ
named past r cid = filter (λ (i : ℕ). has_cid cid (entry_at past r i)) (waiting past r)

-- the oldest candidate of a queue with a command identifier is aborted, where there is one
abbrev pub abort_in : Past → ℕ → Option Queue → List Event
abort_in past cid None = []
abort_in past cid (Some queue) = map (λ (i : ℕ). Abort queue.region i) (take 1 (named past queue.region cid))

-- the queue whose candidates an Abort command may abort: none is one of the admin queue (profile)
abbrev pub target_of : Past → ℕ → Option Queue
target_of past sqid = if sqid == 0 then None else open_sq past sqid

abbrev pub abort_of : Past → (sqid cid : ℕ) → List Event
abort_of past sqid cid = abort_in past cid (target_of past sqid)

-- what a verdict makes
abbrev pub made_by : Past → Verdict → List Event
made_by past (Done status dw0) = []
made_by past (verdict.OpenSq qid region cqid class) = OpenSq qid region cqid class ∷ []
made_by past (verdict.OpenCq qid region) = OpenCq qid region ∷ []
made_by past (BeginDelete qid) = closing_of past qid (open_sq past qid)
made_by past (CloseCq qid) = closed_cq_of qid (open_cq past qid)
made_by past (verdict.Abort sqid cid) = abort_of past sqid cid
made_by past (verdict.SetArbitration settings) = SetArbitration settings ∷ []

-- what an admin entry makes, where it is picked after these events
abbrev pub made_of : FrontRules → Past → Option Sqe → List Event
made_of rules past None = []
made_of rules past (Some entry) = made_by past (verdict_of rules.start (table_history rules past) entry)

-- what the command of the latest pick makes: nothing for an I/O command
abbrev pub made_last : FrontRules → Past → List Event
made_last rules [] = []
made_last rules (Pick seen pick ∷ past) = if pick.qid == 0 then made_of rules past (admin_entry past) else []
made_last rules (e ∷ past) = made_last rules past

-- the effects since the latest pick, in order
abbrev pub effects_since : Past → List Event
effects_since [] = []
effects_since (Pick seen pick ∷ past) = []
effects_since (e ∷ past) = if is_effect e then effects_since past ++ e ∷ [] else effects_since past

-- an effect is the next that the latest pick makes, and any other event comes when all are there
abbrev pub EffectsAtOnce : FrontRules → Past → Event → Type 0
EffectsAtOnce rules past e =
    MatchBool (is_effect e) (IsPrefix (effects_since past ++ e ∷ []) (made_last rules past)) (effects_since past ≡ made_last rules past)
